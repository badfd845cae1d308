use Rattle.std.proofs.Common.{◌≡◌, ◌≤◌, ◌+◌, ◌-◌, ◌^◌, ◌++◌, drop, length, map}
use Rattle.std.specs.Prelude.{min}
use Rattle.std.specs.List.{position_or_len}
use Rattle.project_keeper.specs.Keeping.{is_caller}
use Rattle.project_keeper.proofs.table.caller_place.Given as goal

abbrev pub invariant-loop-row : goal.invariant-loop-row
invariant-loop-row l = (l.at ≡ l.row-index) × (position_or_len (is_caller l.caller) l.callers ≡ l.at + position_or_len (is_caller l.caller) (drop l.row-index l.callers))
