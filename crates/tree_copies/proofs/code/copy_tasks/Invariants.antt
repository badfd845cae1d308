use Rattle.std.proofs.Common.{◌≡◌, map, take}
use Rattle.tree_copies.specs.CodeCopies.{task_reading}
use Rattle.tree_copies.proofs.code.copy_tasks.Given as goal

abbrev pub invariant-loop-task : goal.invariant-loop-task
invariant-loop-task l = map task_reading l.made ≡ map task_reading (take l.task-index l.tasks)
