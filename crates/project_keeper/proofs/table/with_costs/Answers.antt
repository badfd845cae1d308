use Rattle.std.proofs.Common.{◌+◌, ◌-◌, ◌^◌, drop}
use Rattle.std.specs.Prelude.{min}
use Rattle.std.specs.List.{sum_by}
use Rattle.std.proofs.Math.ListN.{drop_of_length-le}
use Rattle.project_keeper.specs.Projects.{cost_of}
use Rattle.project_keeper.proofs.Tables.{sum_ended, no_sum}
use Rattle.project_keeper.proofs.table.with_costs.Goals as goal

pub returns : goal.returns
returns c =
    let left = drop c.loop-edit.edit-index c.args.edits.now in
    sum_ended (2 ^ 64 - 1) c.loop-edit.total (sum_by cost_of left) _ c.loop-edit.invariant.0 (no_sum cost_of left (drop_of_length-le c.args.edits.now c.loop-edit-test.false)) c.loop-edit.invariant.1
