use Rattle.std.proofs.Common.{◌≡◌, ◌+◌, length}
use Rattle.st_lexer.specs.Front.{letters_length}
use Rattle.st_lexer.proofs.bytes.letters_length.Given as goal

abbrev pub invariant-run : goal.invariant-run
invariant-run l = record { counted : letters_length l.bytes ≡ l.count + letters_length l.rest; within : l.count + length l.rest ≡ length l.bytes }

abbrev pub decreases-run : goal.decreases-run
decreases-run l = length l.rest
