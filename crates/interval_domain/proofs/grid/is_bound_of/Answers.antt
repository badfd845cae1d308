use Rattle.std.proofs.Common.{rules, ◌∙◌, ◌||◌, FitsSigned}
use Rattle.std.specs.Ordering.{int_eq}
use Rattle.std.proofs.lemmas.Int.{to_z-of_z}
use mir.Syntax.{w128}
use Rattle.interval_domain.proofs.grid.is_bound_of.Goals as goal

pub returns : goal.returns
returns c =
    let f : FitsSigned w128 c.low.result = search rules in
    let g : FitsSigned w128 c.high.result = search rules in
    let number = to_z-of_z w128 c.args.number c.ranges.number in
    let low = to_z-of_z w128 c.low.result f ∙ c.low.ensures in
    let high = to_z-of_z w128 c.high.result g ∙ c.high.ensures in
    c.is_either.ensures ∙ (λ n. int_eq (low n) (number n) || int_eq (high n) (number n))
