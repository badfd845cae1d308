-- Numbers of 128 bits that are computed: a step on the way.
use Rattle.std.specs.Prelude.{◌≡◌, ℤ, FitsSigned, Option, Some, None}
use Rattle.std.specs.Int.{w128}
use Rattle.st_tree.specs.declared.code.Number.{Number}

-- it is the number, where 128 bits hold it
abbrev pub IsExact : Option Number → ℤ → Type 0
IsExact None z = ¬ FitsSigned w128 z
IsExact (Some n) z = n.value ≡ z
