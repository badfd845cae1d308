use Rattle.std.proofs.Common.{◌≡◌, take}
use Rattle.std.specs.Prelude.{flat_map}
use Rattle.link_faults.specs.First.{after}
use Rattle.expression_types.specs.Meanings.{meant}
use Rattle.unit_rules.specs.Parameters.{task_faults}
use Rattle.unit_rules.proofs.tasks.note_tasks.Given as goal

abbrev pub invariant-loop-task : goal.invariant-loop-task
invariant-loop-task g l =
    let m = meant (g.M.Names.names l.meaning) (g.M.Meaning.parts l.meaning) in
    l.faults ≡ after l.fn.faults (flat_map (task_faults m l.file) (take l.task-index l.tasks))
