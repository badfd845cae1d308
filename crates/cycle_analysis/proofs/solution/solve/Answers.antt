-- The answer is that of its one task.
use Rattle.cycle_analysis.proofs.Rounds.{solve_by}
use Rattle.cycle_analysis.proofs.solution.solve.Goals as goal

pub returns-clause-solution : goal.returns-clause-solution
returns-clause-solution g c =
    (solve_by c.args.grid.now c.args.component.now c.as_slice.result.now c.as_slice-2.result.now c.index-as_slice-0.result c.in_ok-solve_task.field-0 c.requires c.as_slice.ensures c.as_slice-2.ensures c.index-as_slice-0.is c.in_ok-solve_task.ensures.solved).solution

pub returns-clause-least : goal.returns-clause-least
returns-clause-least g c =
    (solve_by c.args.grid.now c.args.component.now c.as_slice.result.now c.as_slice-2.result.now c.index-as_slice-0.result c.in_ok-solve_task.field-0 c.requires c.as_slice.ensures c.as_slice-2.ensures c.index-as_slice-0.is c.in_ok-solve_task.ensures.solved).least

pub returns-clause-alarms : goal.returns-clause-alarms
returns-clause-alarms g c =
    (solve_by c.args.grid.now c.args.component.now c.as_slice.result.now c.as_slice-2.result.now c.index-as_slice-0.result c.in_ok-solve_task.field-0 c.requires c.as_slice.ensures c.as_slice-2.ensures c.index-as_slice-0.is c.in_ok-solve_task.ensures.solved).alarms

pub returns-clause-ranges : goal.returns-clause-ranges
returns-clause-ranges g c =
    (solve_by c.args.grid.now c.args.component.now c.as_slice.result.now c.as_slice-2.result.now c.index-as_slice-0.result c.in_ok-solve_task.field-0 c.requires c.as_slice.ensures c.as_slice-2.ensures c.index-as_slice-0.is c.in_ok-solve_task.ensures.solved).ranges
