use Rattle.std.proofs.Common.{map, drop, ◌≤◌, length}
use Rattle.project_declarations.specs.Rows.{bare_decl}
use Rattle.declaration_order.specs.steps.Numbered.{AreNumbers}
use Rattle.declaration_order.proofs.declared.DeclTable.of.Given as goal

abbrev pub invariant-loop-at : goal.invariant-loop-at
invariant-loop-at l =
    AreNumbers l.at (drop l.at (map bare_decl l.rows.items)) l.numbers
    × (l.at ≤ length l.rows.items)

abbrev pub decreases-loop-at : goal.decreases-loop-at
decreases-loop-at l = l.at
