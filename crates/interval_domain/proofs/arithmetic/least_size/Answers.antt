use Rattle.std.proofs.Common.{rules, ◌∙◌, pos, FitsSigned}
use Rattle.std.proofs.lemmas.Int.{to_z-of_z}
use Rattle.std.specs.Int.{int_max}
use mir.Syntax.{w128}
use Rattle.interval_domain.specs.Arithmetic.{negation_of}
use Rattle.interval_domain.specs.Operators.{kept}
use Rattle.interval_domain.proofs.Signs.{least_size-is}
use Rattle.interval_domain.proofs.Words.{one-back}
use Rattle.interval_domain.proofs.arithmetic.least_size.Goals as goal

pub returns : goal.returns
returns c =
    let fits : FitsSigned w128 c.max.result = search rules in
    let turned = one-back (λ z. kept (negation_of z)) _ c.args.b (search rules) c.ranges.b c.kept_negation.ensures in
    let greater = to_z-of_z w128 c.max.result fits ∙ c.max.ensures.value
    ∙ (λ n. int_max (to_z-of_z w128 c.args.a c.ranges.a n) (turned n)) in
    let whole : FitsSigned w128 c.max-2.result = search rules in
    to_z-of_z w128 c.max-2.result whole ∙ c.max-2.ensures.value ∙ (λ n. int_max (greater n) (pos 0))
    ∙ least_size-is c.args.a c.args.b (search rules)
