use Rattle.std.proofs.Common.{◌≡◌, ◌+◌, length}
use Rattle.st_lexer.specs.Front.{whole_length}
use Rattle.st_lexer.proofs.bytes.digits_length.Given as goal

abbrev pub invariant-run : goal.invariant-run
invariant-run l = record { counted : whole_length l.bytes ≡ l.count + whole_length l.rest; within : l.count + length l.rest ≡ length l.bytes }

abbrev pub decreases-run : goal.decreases-run
decreases-run l = length l.rest
