use Rattle.expression_types.proofs.Told.{both_of}
use Rattle.expression_types.proofs.operators.loose_pair_at.Goals as goal

pub returns-in-Some : goal.returns-in-Some
returns-in-Some g c =
    rw c.in-Some.is
    (both_of _ _ _ _ _ _ _ _ _ _ c.settled_operand-a.ensures c.settled_operand-b.ensures
    c.operation_of.ensures)
