use Rattle.std.proofs.Common.{◌≡◌, ◌≤◌, ◌+◌, ◌-◌, ◌^◌, ◌++◌, drop, length, map}
use Rattle.std.specs.Prelude.{min}
use Rattle.project_keeper.specs.Keeping.{own_of}
use Rattle.project_keeper.proofs.table.own.Given as goal

abbrev pub invariant-loop-row : goal.invariant-loop-row
invariant-loop-row l = own_of l.callers l.caller ≡ own_of (drop l.row-index l.callers) l.caller
