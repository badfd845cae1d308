use Rattle.std.proofs.Common.{arith}
use Rattle.expression_types.specs.Meanings.{meant}
use Rattle.unit_rules.specs.Parameters.{task_faults}
use Rattle.unit_rules.proofs.Noting.{noted_next}
use Rattle.unit_rules.proofs.tasks.note_tasks.Goals as goal

pub loop-task-preserved : goal.loop-task-preserved
loop-task-preserved g c =
    let m = meant (g.M.Names.names c.args.meaning.now) (g.M.Meaning.parts c.args.meaning.now) in
    noted_next (task_faults m c.args.file)
    c.args.tasks.now c.loop-task.task-index c.task-item.result _ _ _ (omega arith) c.task-item.is
    c.loop-task.invariant c.note_task.ensures
