use Rattle.std.proofs.Common.{◌≡◌, take, ◌++◌, map}
use Rattle.interval_domain.specs.Grid as grids
use Rattle.interval_domain.proofs.grid.push_numbers.Given as goal

abbrev pub invariant-loop-rank : goal.invariant-loop-rank
invariant-loop-rank l = l.numbers.items ≡ l.initial.numbers.items ++ map grids.number_of (take l.rank-index l.ranks)
