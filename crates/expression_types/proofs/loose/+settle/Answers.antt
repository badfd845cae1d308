use Rattle.expression_types.specs.Rules.{negated_at}
use Rattle.expression_types.proofs.Told.{bind_some}
use Rattle.expression_types.proofs.Operands.{settled_told}
use Rattle.expression_types.proofs.loose.+settle.Goals as goal

pub settle-returns-in-Binary : goal.settle-returns-in-Binary
settle-returns-in-Binary g t c =
    settled_told _ _ _ _ _ _ _ _ _ _ _ _ _ _ _ _ _ c.in-Binary.is c.get-l.ensures c.get-r.ensures
    c.settled_operand-a.ensures c.settled_operand-b.ensures c.settled_pair.ensures

pub settled_unary-returns-in-Some : goal.settled_unary-returns-in-Some
settled_unary-returns-in-Some g t c =
    bind_some _ (λ j. negated_at c.args.standing c.args.node c.args.elem j.number) _ _ _ _ _
    c.in-Some.ensures c.negated_at.ensures
