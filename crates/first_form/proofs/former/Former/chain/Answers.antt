use Rattle.std.proofs.Common.{refl, sym, ap, ◌∙◌}
use Rattle.first_form.proofs.Chains.{no_sum, one_link, linked_more, sum_other}
use Rattle.first_form.specs.FirstForm.{sum}
use Rattle.first_form.specs.steps.Chains.{chained}
use Rattle.first_form.proofs.former.Former.chain.Goals as goal

pub returns-in_default-operator_of-clause-form : goal.returns-in_default-operator_of-clause-form
returns-in_default-operator_of-clause-form c = λ known.
    no_sum known _ _ c.in-Binary.left c.in-Binary.right c.loop-first.links c.in-Binary.node
    c.in-Binary.operator c.in-Binary.is
    (sym c.in_default-operator_of.is ∙ c.operator_of.ensures) (c.loop-first.invariant.form known)

pub loop-first-preserved : goal.loop-first-preserved
loop-first-preserved c = record {
  form = λ known. one_link known _ _ c.in-Binary.left c.in-Binary.right c.loop-first.links _ _
      c.in-Binary.node c.in-Binary.operator c.in-Some.operator c.in-Binary.is
      c.in-Some.ensures c.in_ok-node.ensures.same refl c.get.ensures c.in_ok-push.ensures.ok
      (c.loop-first.invariant.form known)
      ∙ ap (λ x. chained known c.push.new.self (sum known x)) (sym c.get-first.ensures);
  counted = linked_more _ _ _ c.loop-first.links _ _ c.loop-first.invariant.counted
      c.in_ok-node.ensures.number c.in_ok-node.ensures.next c.in_ok-push.ensures.ok;
}

pub returns : goal.returns
returns c = record {
  form = λ known. c.loop-first.invariant.form known ∙ ap (chained known c.loop-first.links)
      (sum_other known c.loop-first.first.now c.in_default.not-Binary);
  numbers = c.loop-first.invariant.counted;
}
