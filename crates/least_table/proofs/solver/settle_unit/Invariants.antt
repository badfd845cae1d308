use Rattle.std.proofs.Common.{◌≡◌, ℕ, ◌<◌, ◌≤◌}
use Rattle.least_table.specs.System.{at}
use Rattle.least_table.specs.steps.Worklist.{IsOnTheWay}
use Rattle.least_table.proofs.solver.settle_unit.Given as goal

abbrev pub invariant-loop-entry : goal.invariant-loop-entry
invariant-loop-entry g l = record {
  units : l.pending.units ≡ l.fn.pending.units;
  way : IsOnTheWay (g.S.System.meaning l.sys) l.next l.fn.table l.table l.fn.pending.queue l.pending.queue;
  taken : (entry : ℕ) → l.from ≤ entry → entry < l.entry → at l.table entry ≡ at l.next entry;
}
