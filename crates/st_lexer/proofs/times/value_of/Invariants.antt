use Rattle.std.proofs.Common.{◌≡◌, ◌<◌, ◌^◌, length}
use Rattle.st_lexer.specs.Front.{value_on}
use Rattle.st_lexer.proofs.times.value_of.Given as goal

abbrev pub invariant-digit : goal.invariant-digit
invariant-digit l = record { small : l.value < 2 ^ 100; told : value_on 0 l.bytes ≡ value_on l.value l.rest }

abbrev pub decreases-digit : goal.decreases-digit
decreases-digit l = length l.rest
