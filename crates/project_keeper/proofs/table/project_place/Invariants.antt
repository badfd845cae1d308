use Rattle.std.proofs.Common.{◌≡◌, ◌≤◌, ◌+◌, ◌-◌, ◌^◌, ◌++◌, drop, length, map}
use Rattle.std.specs.Prelude.{min}
use Rattle.std.specs.List.{position_or_len}
use Rattle.project_keeper.specs.Projects.{is_named}
use Rattle.project_keeper.proofs.table.project_place.Given as goal

abbrev pub invariant-loop-row : goal.invariant-loop-row
invariant-loop-row l = (l.at ≡ l.row-index) × (position_or_len (is_named l.project) l.projects ≡ l.at + position_or_len (is_named l.project) (drop l.row-index l.projects))
