use Rattle.std.proofs.Common.{◌≡◌, ◌+◌, length}
use Rattle.st_lexer.specs.Front.{numbers_length}
use Rattle.st_lexer.proofs.addresses.numbers_length.Given as goal

abbrev pub invariant-run : goal.invariant-run
invariant-run l = record { counted : numbers_length l.bytes ≡ l.count + numbers_length l.rest; within : l.count + length l.rest ≡ length l.bytes }

abbrev pub decreases-run : goal.decreases-run
decreases-run l = length l.rest
