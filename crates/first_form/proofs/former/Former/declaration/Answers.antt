use Rattle.first_form.proofs.Counting.{counts_cons, counts_append}
use Rattle.first_form.proofs.former.Former.declaration.Goals as goal

pub returns-clause-numbers : goal.returns-clause-numbers
returns-clause-numbers c =
    counts_cons c.in_ok-node.node _ _ _ _ c.in_ok-node.ensures.number c.in_ok-node.ensures.next
    (counts_append _ _ _ _ _ c.in_ok-names.ensures.numbers c.in_ok-spec.ensures.numbers)
