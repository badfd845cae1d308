use Rattle.std.proofs.Common.{◌≡◌, take}
use Rattle.least_table.specs.steps.Worklist.{IsQueued}
use Rattle.least_table.proofs.pending.Pending.put_all.Given as goal

abbrev pub invariant-loop-unit : goal.invariant-loop-unit
invariant-loop-unit l = record {
  units : l.self.units ≡ l.fn.self.units;
  queued : IsQueued (take l.unit-index l.units) l.fn.self.queue l.self.queue;
}
