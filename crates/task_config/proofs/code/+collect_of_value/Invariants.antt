-- The literals so far and those that are still to be added are all those of the whole.
use Rattle.std.proofs.Common.{◌≡◌, ◌≤◌, ◌++◌}
use Rattle.first_form.specs.declared.tree.Expr.{size-Expr}
use Rattle.task_config.specs.Written.{written_literals}
use Rattle.task_config.proofs.code.+collect_of_value.Given as goal

abbrev pub decreases-collect_of_value : goal.decreases-collect_of_value
decreases-collect_of_value l = goal.size-collect_of_value l

abbrev pub invariant-loop-value : goal.invariant-loop-value
invariant-loop-value l = record {
  smaller : size-Expr l.value ≤ size-Expr l.fn.whole;
  added : l.literals ++ written_literals l.value ≡ l.fn.literals ++ written_literals l.fn.whole;
}
