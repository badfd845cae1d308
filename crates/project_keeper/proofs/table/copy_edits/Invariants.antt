use Rattle.std.proofs.Common.{◌≡◌, ◌≤◌, ◌+◌, ◌-◌, ◌^◌, ◌++◌, drop, length, map}
use Rattle.std.specs.Prelude.{min}
use Rattle.project_keeper.proofs.table.copy_edits.Given as goal

abbrev pub invariant-loop-edit : goal.invariant-loop-edit
invariant-loop-edit l = l.copy ++ drop l.edit-index l.edits ≡ l.edits
