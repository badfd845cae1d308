-- The lines so far are those of the shared cells and of the tasks so far.
use Rattle.std.proofs.Common.{◌≡◌, ◌++◌, take}
use Rattle.std.specs.Prelude.{flat_map}
use Rattle.station_cli.specs.steps.Lines.{lines_of}
use Rattle.station_cli.proofs.report.range_lines.Given as goal

abbrev pub invariant-loop-task : goal.invariant-loop-task
invariant-loop-task l = l.lines ≡ lines_of l.component.shared l.solution.ranges.shared.items ++ flat_map (λ task. lines_of task.cells l.solution.ranges.own.items) (take l.task-index l.component.tasks)
