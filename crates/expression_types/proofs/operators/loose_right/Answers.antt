use Rattle.expression_types.specs.Rules.{operation}
use Rattle.expression_types.proofs.Told.{bind_some}
use Rattle.expression_types.proofs.operators.loose_right.Goals as goal

pub returns-in-Some : goal.returns-in-Some
returns-in-Some g c =
    bind_some _ (λ j. operation c.args.standing c.args.node c.args.operator c.args.elem c.args.number j.number) _ _ _ _ _
    c.in-Some.ensures c.operation.ensures
