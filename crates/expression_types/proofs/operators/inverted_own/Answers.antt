use Rattle.expression_types.specs.Rules.{inverted}
use Rattle.expression_types.proofs.Told.{bind_some}
use Rattle.expression_types.proofs.operators.inverted_own.Goals as goal

pub returns-in-Some : goal.returns-in-Some
returns-in-Some g c =
    bind_some _ (λ j. inverted c.args.standing c.args.node j.ty) _ _ _ _ _
    c.in-Some.ensures c.inverted.ensures
