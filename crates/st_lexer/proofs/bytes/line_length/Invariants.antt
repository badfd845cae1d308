use Rattle.std.proofs.Common.{◌≡◌, ◌+◌, length}
use Rattle.st_lexer.specs.Front.{line_length}
use Rattle.st_lexer.proofs.bytes.line_length.Given as goal

abbrev pub invariant-run : goal.invariant-run
invariant-run l = record { counted : line_length l.bytes ≡ l.count + line_length l.rest; within : l.count + length l.rest ≡ length l.bytes }

abbrev pub decreases-run : goal.decreases-run
decreases-run l = length l.rest
