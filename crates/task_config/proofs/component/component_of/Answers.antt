use Rattle.std.proofs.Common.{◌++◌, take, ◌+◌, ap, ◌∙◌, List, flat_map, arith}
use Rattle.std.proofs.lemmas.Grind.{common_steps}
use Rattle.first_form.specs.declared.tree.Stmt.{Stmt}
use Rattle.task_config.specs.Written.{literals_of_stmt}
use Rattle.task_config.proofs.Places.{tasks_step, literals_step}
use Rattle.task_config.proofs.component.component_of.Goals as goal

pub loop-unit-preserved : goal.loop-unit-preserved
loop-unit-preserved c = record {
  tasks = grind (arith, common_steps, c.loop-unit.invariant.tasks, c.in_ok-push.ensures.ok);
  are = tasks_step (take c.loop-unit.unit-index c.args.tree.now.units) _ c.loop-unit.tasks _ c.unit-item.result c.in_ok-task_of.field-0
      (grind (arith, common_steps)) c.in_ok-push.ensures.ok c.loop-unit.invariant.are c.in_ok-task_of.ensures.cells c.in_ok-task_of.ensures.code;
  literals = literals_step (λ unit. flat_map literals_of_stmt unit.body) c.loop-unit.literals c.collect_literals.new.literals (take c.loop-unit.unit-index c.args.tree.now.units) (take (c.loop-unit.unit-index + 1) c.args.tree.now.units) c.unit-item.result
      c.loop-unit.invariant.literals (c.in_ok-collect_literals.ensures ∙ ap (λ (body : List Stmt). c.loop-unit.literals ++ flat_map literals_of_stmt body) c.as_slice.ensures) (grind (arith, common_steps));
}
