use Rattle.std.proofs.Common.{◌+◌, drop}
use Rattle.first_form.specs.Bare.{bare_stmt}
use Rattle.first_form.specs.Nodes.{stmt_nodes}
use Rattle.first_form.specs.FirstForm.{stmt}
use Rattle.first_form.specs.steps.Known.{known_in}
use Rattle.first_form.proofs.Made.{at_item, made_more}
use Rattle.first_form.proofs.former.Former.statements.Goals as goal

pub loop-source-preserved : goal.loop-source-preserved
loop-source-preserved c =
    let i = c.loop-source.source-index in
    made_more (stmt (known_in c.args.declared.now)) bare_stmt stmt_nodes c.args.sources.now
    (drop i c.args.sources.now) (drop (i + 1) c.args.sources.now) c.source-item.result
    c.args.self.now.next c.loop-source.self.next c.loop-source.body
    c.loop-source.invariant (at_item c.args.sources.now i c.source-item.result
    c.loop-source-test.true c.source-item.is) c.in_ok-statement.field-0 c.push.new.self
    c.statement.new.self.next
    c.in_ok-statement.ensures.form c.in_ok-statement.ensures.numbers c.in_ok-push.ensures.ok
