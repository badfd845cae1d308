use Rattle.expression_types.specs.Rules.{varying}
use Rattle.expression_types.specs.declared.judged.ExprType.TheVariants as ty
use Rattle.expression_types.proofs.Sharing.{two_told}
use Rattle.expression_types.proofs.shared.two_at.Goals as goal

pub returns : goal.returns
returns g c =
    two_told (varying c.args.standing (ty.Elem c.args.elem)) c.varying.result _ _ _ _ _ _ _ _ _ _
    c.fitted-a.ensures c.fitted-b.ensures c.still_good.ensures
    c.still_good-all.ensures c.varying.ensures c.where_all.ensures
