-- The tasks and the literals so far are those of the units so far.
use Rattle.std.proofs.Common.{◌≡◌, length, take}
use Rattle.std.specs.Prelude.{flat_map}
use Rattle.task_config.specs.Written.{literals_of_stmt, AreTasks}
use Rattle.task_config.proofs.component.component_of.Given as goal

abbrev pub invariant-loop-unit : goal.invariant-loop-unit
invariant-loop-unit l = record {
  tasks : length l.tasks ≡ l.unit-index;
  are : AreTasks (take l.unit-index l.tree.units) l.tasks;
  literals : l.literals ≡ flat_map (λ unit. flat_map literals_of_stmt unit.body) (take l.unit-index l.tree.units);
}
