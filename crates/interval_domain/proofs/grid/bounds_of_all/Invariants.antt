use Rattle.std.proofs.Common.{◌≡◌, take}
use Rattle.std.specs.List.{flat_map}
use Rattle.interval_domain.specs.Grid as grids
use Rattle.interval_domain.proofs.grid.bounds_of_all.Given as goal

abbrev pub invariant-loop-t : goal.invariant-loop-t
invariant-loop-t l = l.numbers.items ≡ flat_map grids.bounds_of (take l.t-index l.types)
