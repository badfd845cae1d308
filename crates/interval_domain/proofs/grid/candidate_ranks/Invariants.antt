use Rattle.std.proofs.Common.{◌≡◌, take}
use Rattle.interval_domain.specs.Grid as grids
use Rattle.interval_domain.proofs.grid.candidate_ranks.Given as goal

abbrev pub invariant-loop-literal : goal.invariant-loop-literal
invariant-loop-literal l = l.ranks.items ≡ grids.ranks_of (grids.candidates (take l.literal-index l.literals))
