use Rattle.std.proofs.Common.{◌≡◌, ◌*◌, ◌≤◌, drop}
use Rattle.declared_types.specs.Specifications as spec
use Rattle.declared_types.proofs.arrays.count_of.Given as goal

abbrev pub invariant-loop-dim : goal.invariant-loop-dim
invariant-loop-dim l =
    (spec.count_of l.dims ≡ l.count * spec.count_of (drop l.dim-index l.dims))
    × (1 ≤ l.count) × (l.count ≤ spec.max_elements)
