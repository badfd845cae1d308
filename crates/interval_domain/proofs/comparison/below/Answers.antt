use Rattle.std.proofs.Common.{rules, FitsSigned, ap, ◌∙◌, pos, ◌-ℤ◌}
use Rattle.std.proofs.lemmas.Int.{to_z-of_z}
use mir.Syntax.{w128}
use Rattle.interval_domain.specs.Interval.{span}
use Rattle.std.specs.Int.{int_min}
use Rattle.interval_domain.proofs.comparison.below.Goals as goal

pub returns-then-low-end : goal.returns-then-low-end
returns-then-low-end c =
    let f0 : FitsSigned w128 c.args.low = search rules in
    let e0 = to_z-of_z w128 c.args.low f0 in
    let f1 : FitsSigned w128 c.args.high = search rules in
    let e1 = to_z-of_z w128 c.args.high f1 in
    let f2 : FitsSigned w128 c.at_most_before.result = search rules in
    let e2 = to_z-of_z w128 c.at_most_before.result f2 in
    let f3 : FitsSigned w128 c.args.end = search rules in
    let e3 = to_z-of_z w128 c.args.end f3 in
    c.of.ensures ∙ (λ n. span (e0 n) (e2 n))
    ∙ ap (λ z. span c.args.low z) (c.at_most_before.ensures ∙ (λ n. int_min (e1 n) (e3 n -ℤ pos 1)))
