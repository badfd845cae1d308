use Rattle.std.proofs.Common.{append_assoc, ap, arith}
use Rattle.first_form.specs.declared.tree.Expr.{size-Expr}
use Rattle.task_config.specs.Written.{written_literals}
use Rattle.task_config.proofs.Written.{binary_literals, left_smaller}
use Rattle.task_config.proofs.code.+collect_of_value.Goals as goal

pub loop-value-preserved : goal.loop-value-preserved
loop-value-preserved t c = record {
  smaller = (
      let s = left_smaller c.in-Binary.field-0 c.in-Binary.field-1 c.in-Binary.left c.in-Binary.right in
      let e = ap size-Expr c.in-Binary.is in
      let f = ap size-Expr c.get-value.ensures in
      omega (arith, c.loop-value.invariant.smaller)
      );
  added = (
      let k = binary_literals c.in-Binary.field-0 c.in-Binary.field-1 c.in-Binary.left c.in-Binary.right in
      let a = append_assoc c.loop-value.literals (written_literals c.in-Binary.right) (written_literals c.in-Binary.left) in
      let e = c.in_ok-collect_of_value-in-Binary.ensures in
      cc
      );
}
