use Rattle.std.proofs.Common.{drop, ◌≤◌, length}
use Rattle.type_parts.specs.Tables.{enumerations_in}
use Rattle.type_parts.specs.steps.Numbered.{AreNumbers}
use Rattle.type_parts.proofs.numbers.numbers_of.Given as goal

abbrev pub invariant-loop-at : goal.invariant-loop-at
invariant-loop-at l =
    AreNumbers l.at (drop l.at (enumerations_in l.rows)) l.numbers × (l.at ≤ length l.rows)

abbrev pub decreases-loop-at : goal.decreases-loop-at
decreases-loop-at l = l.at
