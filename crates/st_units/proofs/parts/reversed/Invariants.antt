use Rattle.std.proofs.Common.{◌≡◌, ◌++◌, length, reverse}
use Rattle.st_units.proofs.parts.reversed.Given as goal

abbrev pub invariant-loop-part : goal.invariant-loop-part
invariant-loop-part l = reverse l.fn.parts ≡ l.made ++ reverse l.parts

abbrev pub decreases-loop-part : goal.decreases-loop-part
decreases-loop-part l = length l.parts
