use Rattle.expression_types.specs.Rules.{operation}
use Rattle.expression_types.proofs.Told.{bind_some}
use Rattle.expression_types.proofs.operators.loose_left.Goals as goal

pub returns-in-Some : goal.returns-in-Some
returns-in-Some g c =
    bind_some _ (λ j. operation c.args.standing c.args.node c.args.operator c.args.elem j.number c.args.number) _ _ _ _ _
    c.in-Some.ensures c.operation.ensures
