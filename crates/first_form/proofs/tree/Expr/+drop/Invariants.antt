-- The operand that is still to be dropped is no deeper than the expression.
use Rattle.std.proofs.Common.{◌≤◌}
use Rattle.first_form.specs.declared.tree.Expr.{size-Expr}
use Rattle.first_form.proofs.tree.Expr.+drop.Given as goal

abbrev pub invariant-loop-self : goal.invariant-loop-self
invariant-loop-self l = size-Expr l.self ≤ size-Expr l.fn.self
