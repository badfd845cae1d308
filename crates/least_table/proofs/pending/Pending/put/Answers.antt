use Rattle.std.proofs.Common.{◌<◌, length, ap, arith}
use Rattle.least_table.specs.steps.Worklist.{Waiting}
use Rattle.least_table.proofs.Queues.{queued_new, marked_new}
use Rattle.least_table.proofs.pending.Pending.put.Goals as goal

pub invariant_of-self-then-not-index : goal.invariant_of-self-then-not-index
invariant_of-self-then-not-index c =
    let inside : c.args.unit < length c.self.inside.marks.items = omega (
      arith,
      c.requires,
      ap (λ (w : Waiting).
          w.units) c.self.view_is,
    ) in
    rw c.in_ok-push_back.ensures.items
    (marked_new c.self.inside.marks.items c.args.unit c.self.inside.queue.items inside c.self.invariant)

pub returns-in_ok-push_back-clause-queued : goal.returns-in_ok-push_back-clause-queued
returns-in_ok-push_back-clause-queued c =
    rw (c.in_ok-push_back.ensures.items, ← c.self.view_is) (queued_new c.args.unit c.self.inside.queue.items)
