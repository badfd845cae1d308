use Rattle.std.proofs.Common.{◌≡◌, ◌+◌, length}
use Rattle.st_lexer.specs.Front.{pragma_at, longer}
use Rattle.st_lexer.proofs.comments.pragma_length.Given as goal

abbrev pub invariant-more : goal.invariant-more
invariant-more l = record { told : pragma_at l.bytes ≡ longer l.count (pragma_at l.rest); within : l.count + length l.rest ≡ length l.bytes }

abbrev pub decreases-more : goal.decreases-more
decreases-more l = length l.rest
