use Rattle.std.proofs.Common.{◌+◌, Some, [], ◌∷◌, drop, sym, ◌∙◌}
use Rattle.first_form.specs.Bare.{bare_identifier}
use Rattle.first_form.specs.FirstForm.{identifier}
use Rattle.first_form.proofs.Made.{at_item, at_end, made_more, made_all, each_some}
use Rattle.first_form.proofs.former.Former.names.Goals as goal

pub loop-source-preserved : goal.loop-source-preserved
loop-source-preserved c =
    let i = c.loop-source.source-index in
    made_more (λ i. Some (identifier i)) bare_identifier (λ i. i.node ∷ []) c.args.sources.now
    (drop i c.args.sources.now) (drop (i + 1) c.args.sources.now) c.source-item.result
    c.args.self.now.next c.loop-source.self.next c.loop-source.names
    c.loop-source.invariant (at_item c.args.sources.now i c.source-item.result
    c.loop-source-test.true c.source-item.is) c.in_ok-identifier.field-0 c.push.new.self
    c.identifier.new.self.next
    c.in_ok-identifier.ensures.form c.in_ok-identifier.ensures.numbers c.in_ok-push.ensures.ok

pub returns-clause-form : goal.returns-clause-form
returns-clause-form c =
    sym (each_some identifier c.args.sources.now)
    ∙ made_all (λ i. Some (identifier i)) bare_identifier (λ i. i.node ∷ []) c.args.sources.now
    (drop c.loop-source.source-index c.args.sources.now) c.args.self.now.next
    c.loop-source.self.next
    c.loop-source.names c.loop-source.invariant
    (at_end c.args.sources.now c.loop-source.source-index c.loop-source-test.false)
