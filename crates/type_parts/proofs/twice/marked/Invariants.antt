use Rattle.std.proofs.Common.{ℕ, List, take}
use Rattle.type_parts.specs.Tables.{IsTable}
use Rattle.type_parts.specs.steps.Marks.{AreMarked}
use Rattle.type_parts.proofs.twice.marked.Given as goal

abbrev pub invariant-loop-row : goal.invariant-loop-row
invariant-loop-row l =
    (lists : List (List (List ℕ))) → IsTable l.names lists
    → AreMarked lists l.count (take l.row-index l.names) l.twice.items
