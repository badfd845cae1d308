use Rattle.std.proofs.Common.{◌≡◌, length, reverse}
use Rattle.st_units.specs.Parts.{with_parts}
use Rattle.st_units.proofs.parts.put_all.Given as goal

abbrev pub invariant-loop-part : goal.invariant-loop-part
invariant-loop-part l = with_parts l.initial.tree (reverse l.fn.last_first)
    ≡ with_parts l.tree (reverse l.rest)

abbrev pub decreases-loop-part : goal.decreases-loop-part
decreases-loop-part l = length l.rest
