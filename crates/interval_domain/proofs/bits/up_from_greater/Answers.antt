use Rattle.std.proofs.Common.{rules, ap, ◌∙◌, FitsSigned}
use Rattle.std.proofs.lemmas.Int.{to_z-of_z}
use Rattle.std.specs.Int.{int_max}
use mir.Syntax.{w128}
use Rattle.interval_domain.specs.Interval.{span}
use Rattle.interval_domain.specs.Bits.{ones_above}
use Rattle.interval_domain.proofs.Words.{two-back}
use Rattle.interval_domain.proofs.bits.up_from_greater.Goals as goal

pub returns : goal.returns
returns c =
    let fits : FitsSigned w128 c.ones_above.result = search rules in
    let low = two-back int_max _ c.args.a c.args.c (search rules) c.ranges.a c.ranges.c c.max.ensures.value in
    let above = two-back int_max _ c.args.b c.args.d (search rules) c.ranges.b c.ranges.d c.max-2.ensures.value in
    let high = to_z-of_z w128 c.ones_above.result fits ∙ c.ones_above.ensures.value ∙ ap ones_above above in
    c.of.ensures ∙ (λ n. span (low n) (high n))
