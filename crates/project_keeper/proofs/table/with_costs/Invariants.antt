use Rattle.std.proofs.Common.{◌≡◌, ◌≤◌, ◌+◌, ◌-◌, ◌^◌, drop}
use Rattle.std.specs.Prelude.{min}
use Rattle.std.specs.List.{sum_by}
use Rattle.project_keeper.specs.Projects.{cost_of}
use Rattle.project_keeper.proofs.table.with_costs.Given as goal

abbrev pub invariant-loop-edit : goal.invariant-loop-edit
invariant-loop-edit l = (l.total ≤ 2 ^ 64 - 1) × (min (l.total + sum_by cost_of (drop l.edit-index l.edits)) (2 ^ 64 - 1) ≡ min (l.fn.before + sum_by cost_of l.edits) (2 ^ 64 - 1))
