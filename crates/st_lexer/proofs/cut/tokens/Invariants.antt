use Rattle.std.proofs.Common.{length, drop, ◌-◌, ◌≤◌}
use Rattle.std.specs.Str.{IsUtf8}
use Rattle.st_lexer.specs.Cut.{IsCutTo}
use Rattle.st_lexer.proofs.cut.tokens.Given as goal

abbrev pub invariant-cut : goal.invariant-cut
invariant-cut l = record { within : l.at ≤ length l.text; utf8 : IsUtf8 l.text; so_far : IsCutTo l.text l.list.items l.at (drop l.at l.text) }

abbrev pub decreases-cut : goal.decreases-cut
decreases-cut l = length l.text - l.at
