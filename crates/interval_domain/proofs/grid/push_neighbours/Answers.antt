use Rattle.std.proofs.Common.{rules, FitsSigned, pos, ap, ◌∙◌}
use Rattle.std.proofs.lemmas.Int.{to_z-of_z}
use mir.Syntax.{w128}
use Rattle.interval_domain.specs.Operators.{kept, sum_of, difference_of}
use Rattle.interval_domain.proofs.Sets.{pushed-three}
use Rattle.interval_domain.proofs.grid.push_neighbours.Goals as goal

pub returns : goal.returns
returns c =
    let e0 = to_z-of_z w128 c.args.literal c.ranges.literal in
    let f1 : FitsSigned w128 c.kept_difference.result = search rules in
    let e1 = to_z-of_z w128 c.kept_difference.result f1 in
    let f2 : FitsSigned w128 c.kept.result = search rules in
    let e2 = to_z-of_z w128 c.kept.result f2 in
    let f3 : FitsSigned w128 c.kept_sum.result = search rules in
    let e3 = to_z-of_z w128 c.kept_sum.result f3 in
    pushed-three c.args.literal _ _ _ _ _ _ _ c.in_ok-push_rank.ensures c.in_ok-push_rank-2.ensures
    c.in_ok-push_rank-3.ensures
    (e1 ∙ c.kept_difference.ensures ∙ ap (λ z. kept (difference_of z (pos 1))) e0)
    (e2 ∙ c.kept.ensures ∙ ap kept e0)
    (e3 ∙ c.kept_sum.ensures ∙ ap (λ z. kept (sum_of z (pos 1))) e0)
