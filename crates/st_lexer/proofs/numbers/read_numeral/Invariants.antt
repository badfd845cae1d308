use Rattle.std.proofs.Common.{◌≡◌, true, length, fold}
use Rattle.st_lexer.specs.Bytes.{one_more, value_in}
use Rattle.st_lexer.specs.Front.{goes_on}
use Rattle.st_lexer.proofs.numbers.read_numeral.Given as goal

abbrev pub invariant-digit : goal.invariant-digit
invariant-digit l = record {
  goes : goes_on l.base true 0 l.bytes ≡ goes_on l.base l.after l.value l.rest;
  told : value_in l.base l.bytes ≡ fold (one_more l.base) l.value l.rest;
}

abbrev pub decreases-digit : goal.decreases-digit
decreases-digit l = length l.rest
