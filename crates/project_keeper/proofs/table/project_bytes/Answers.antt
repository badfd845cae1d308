use Rattle.std.proofs.Common.{◌+◌, ◌-◌, ◌^◌, drop}
use Rattle.std.specs.Prelude.{min}
use Rattle.std.specs.List.{sum_by}
use Rattle.std.proofs.Math.ListN.{drop_of_length-le}
use Rattle.project_keeper.specs.declared.rows.ProjectRow.{ProjectRow}
use Rattle.project_keeper.specs.Projects.{cost_of, stored}
use Rattle.project_keeper.proofs.Tables.{sum_ended, no_sum}
use Rattle.project_keeper.proofs.table.project_bytes.Goals as goal

pub returns : goal.returns
returns c =
    let left = drop c.loop-project.project-index c.args.projects.now in
    sum_ended (2 ^ 64 - 1) c.loop-project.total (stored left) _ c.loop-project.invariant.0
    (no_sum (λ (project : ProjectRow). sum_by cost_of project.edits) left (drop_of_length-le c.args.projects.now c.loop-project-test.false)) c.loop-project.invariant.1
