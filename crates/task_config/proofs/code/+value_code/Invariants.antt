-- What is still to be written out, before the code so far, is the whole before the rest.
use Rattle.std.proofs.Common.{◌≡◌, ◌≤◌}
use Rattle.st_tree.specs.Code.{reading}
use Rattle.first_form.specs.declared.tree.Expr.{size-Expr}
use Rattle.task_config.specs.Written.{place_in, written_value}
use Rattle.task_config.proofs.code.+value_code.Given as goal

abbrev pub decreases-value_code : goal.decreases-value_code
decreases-value_code l = goal.size-value_code l

abbrev pub invariant-loop-value : goal.invariant-loop-value
invariant-loop-value l = record {
  smaller : size-Expr l.value ≤ size-Expr l.fn.whole;
  written : written_value (place_in (λ key. key.now) l.cells) l.value (reading l.code) ≡ written_value (place_in (λ key. key.now) l.cells) l.fn.whole (reading l.fn.rest);
}
