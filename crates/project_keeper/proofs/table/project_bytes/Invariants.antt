use Rattle.std.proofs.Common.{◌≡◌, ◌≤◌, ◌+◌, ◌-◌, ◌^◌, drop}
use Rattle.std.specs.Prelude.{min}
use Rattle.project_keeper.specs.Projects.{stored}
use Rattle.project_keeper.proofs.table.project_bytes.Given as goal

abbrev pub invariant-loop-project : goal.invariant-loop-project
invariant-loop-project l = (l.total ≤ 2 ^ 64 - 1) × (min (l.total + stored (drop l.project-index l.projects)) (2 ^ 64 - 1) ≡ min (stored l.projects) (2 ^ 64 - 1))
