use Rattle.std.proofs.Common.{rules, ◌≡◌, ◌++◌, FitsSigned, pos, get_or, take, arith, sym, ◌∙◌}
use Rattle.std.proofs.lemmas.Int.{to_z-of_z}
use mir.Syntax.{w128}
use Rattle.interval_domain.specs.Grid as grids
use Rattle.interval_domain.proofs.Sets.{ranks-more}
use Rattle.interval_domain.proofs.grid.candidate_ranks.Goals as goal

pub loop-literal-preserved : goal.loop-literal-preserved
loop-literal-preserved c =
    let fits : FitsSigned w128 (get_or c.args.literals.now c.loop-literal.literal-index (pos 0)) = search rules in
    let e = to_z-of_z w128 (get_or c.args.literals.now c.loop-literal.literal-index (pos 0)) fits in
    let more = ranks-more c.args.literals.now c.loop-literal.literal-index (pos 0) (omega arith) in
    let before : c.loop-literal.ranks.items ≡ grids.ranks_of (grids.candidates (take c.loop-literal.literal-index c.args.literals.now)) = c.loop-literal.invariant in
    c.in_ok-push_neighbours.ensures ∙ (λ i. before i ++ grids.ranks_of (grids.neighbours (e i))) ∙ sym more
