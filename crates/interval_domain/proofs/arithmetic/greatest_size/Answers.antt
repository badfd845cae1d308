use Rattle.std.proofs.Common.{rules, ◌∙◌, FitsSigned}
use Rattle.std.proofs.lemmas.Int.{to_z-of_z}
use mir.Syntax.{w128}
use Rattle.std.specs.Int.{int_max}
use Rattle.interval_domain.specs.Arithmetic.{negation_of}
use Rattle.interval_domain.specs.Operators.{kept}
use Rattle.interval_domain.proofs.Signs.{greatest_size-is}
use Rattle.interval_domain.proofs.Words.{one-back}
use Rattle.interval_domain.proofs.arithmetic.greatest_size.Goals as goal

pub returns : goal.returns
returns c =
    let turned = one-back (λ z. kept (negation_of z)) _ c.args.a (search rules) c.ranges.a c.kept_negation.ensures in
    let upper = one-back kept _ c.args.b (search rules) c.ranges.b c.kept.ensures in
    let whole : FitsSigned w128 c.max.result = search rules in
    to_z-of_z w128 c.max.result whole ∙ c.max.ensures.value ∙ (λ n. int_max (turned n) (upper n))
    ∙ greatest_size-is c.args.a c.args.b
