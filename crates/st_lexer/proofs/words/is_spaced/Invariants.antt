use Rattle.std.proofs.Common.{◌≡◌, length}
use Rattle.st_lexer.specs.Bytes.{is_spaced}
use Rattle.st_lexer.proofs.Spaced.{goes_well}
use Rattle.st_lexer.proofs.words.is_spaced.Given as goal

abbrev pub invariant-byte : goal.invariant-byte
invariant-byte l = goes_well l.after l.rest ≡ is_spaced 95 l.word

abbrev pub decreases-byte : goal.decreases-byte
decreases-byte l = length l.rest
