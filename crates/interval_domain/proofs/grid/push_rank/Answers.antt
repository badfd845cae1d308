use Rattle.std.proofs.Common.{◌∙◌, ◌++◌, ◌∷◌, [], List, ℕ, ap, sym}
use Rattle.std.specs.List.{list_any}
use Rattle.std.proofs.lemmas.Int.{to_z-of_z}
use mir.Syntax.{w128}
use Rattle.interval_domain.specs.Grid.{rank_of, is_bound_of, all_types}
use Rattle.interval_domain.proofs.Sets.{rank-alone, no-rank, none-pushed}
use Rattle.interval_domain.proofs.grid.push_rank.Goals as goal

pub returns-then-is_type_bound : goal.returns-then-is_type_bound
returns-then-is_type_bound c =
    let e = to_z-of_z w128 c.args.number c.ranges.number in
    let bound = c.is_type_bound.ensures ∙ ap (λ z. list_any (is_bound_of z) all_types) e in
    none-pushed _ _ (no-rank c.args.number _ bound c.if-is_type_bound.true)

pub returns-in_ok-push : goal.returns-in_ok-push
returns-in_ok-push c =
    let e = to_z-of_z w128 c.args.number c.ranges.number in
    let bound = c.is_type_bound.ensures ∙ ap (λ z. list_any (is_bound_of z) all_types) e in
    let rank = c.rank_of.ensures ∙ ap rank_of e in
    let one = rank-alone c.args.number _ bound c.if-is_type_bound.false in
    c.in_ok-push.ensures.items ∙ ap (λ (l : List ℕ). c.args.ranks.now.items ++ l) ((λ n. rank n ∷ []) ∙ sym one)
