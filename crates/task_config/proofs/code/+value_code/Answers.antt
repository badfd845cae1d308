use Rattle.std.proofs.Common.{ap, arith}
use Rattle.st_tree.specs.Code.{reading}
use Rattle.first_form.specs.declared.tree.Expr.{size-Expr}
use Rattle.task_config.specs.Written.{place_in}
use Rattle.task_config.proofs.Written.{binary_value, left_smaller}
use Rattle.task_config.proofs.code.+value_code.Goals as goal

pub loop-value-preserved : goal.loop-value-preserved
loop-value-preserved t c = record {
  smaller = (
      let s = left_smaller c.in-Binary.node c.in-Binary.operator c.in-Binary.left c.in-Binary.right in
      let e = ap size-Expr c.in-Binary.is in
      let f = ap size-Expr c.get-value.ensures in
      omega (arith, c.loop-value.invariant.smaller)
      );
  written = (
      let k = binary_value (place_in (λ key. key.now) c.args.cells.now) c.in-Binary.node c.in-Binary.operator c.in-Binary.left c.in-Binary.right (reading c.loop-value.code) in
      let n = ap reading c.in_ok-new-in-Binary.ensures.ok in
      cc (c.in_ok-code-in-Binary.ensures)
      );
}
