use Rattle.std.proofs.Common.{◌+◌, drop}
use Rattle.first_form.specs.Bare.{bare_decl}
use Rattle.first_form.specs.Nodes.{decl_nodes}
use Rattle.first_form.specs.FirstForm.{decl}
use Rattle.first_form.proofs.Made.{at_item, made_more}
use Rattle.first_form.proofs.former.Former.declarations.Goals as goal

pub loop-source-preserved : goal.loop-source-preserved
loop-source-preserved c =
    let i = c.loop-source.source-index in
    made_more decl bare_decl decl_nodes c.args.sources.now (drop i c.args.sources.now)
    (drop (i + 1) c.args.sources.now) c.source-item.result c.args.self.now.next
    c.loop-source.self.next c.loop-source.decls
    c.loop-source.invariant (at_item c.args.sources.now i c.source-item.result
    c.loop-source-test.true c.source-item.is) c.in_ok-declaration.field-0 c.push.new.self
    c.declaration.new.self.next
    c.in_ok-declaration.ensures.form c.in_ok-declaration.ensures.numbers c.in_ok-push.ensures.ok
