use Rattle.std.proofs.Common.{rules, ◌≡◌, true, replicate}
use Rattle.least_table.proofs.Queues.{marked_all}
use Rattle.least_table.proofs.pending.Pending.all.Goals as goal

pub invariant_of-result : goal.invariant_of-result
invariant_of-result c =
    let marks : c.in_ok-marks.marks.items ≡ replicate c.args.units true = search rules in
    rw (marks, c.in_ok-queue.ensures) (marked_all c.args.units)
