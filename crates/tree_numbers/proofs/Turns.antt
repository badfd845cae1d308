-- Elements one after the other, as a loop takes them.
use Rattle.std.proofs.Common.{List, ◌++◌}
use Rattle.tree_numbers.specs.declared.numbers.Counting.{Counting}

-- what was made before, and then this
abbrev pub behind : {A : Type 0} → List A → List A × Counting → List A × Counting
behind front p = (front ++ p.0, p.1)
