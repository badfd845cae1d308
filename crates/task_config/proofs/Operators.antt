-- The operators of expressions and statements.
use Rattle.std.proofs.Common.{List, [], ◌∷◌, ◌++◌}
use Rattle.st_tree.specs.declared.node.Site.{Site}
use Rattle.first_form.specs.declared.tree.Expr.{Expr, more_of-Expr, end_of-Expr}
use Rattle.first_form.specs.declared.tree.Expr.TheVariants as expr
use Rattle.first_form.specs.declared.tree.Stmt.{Stmt}
use Rattle.first_form.specs.declared.tree.Stmt.TheVariants.{Assign}

-- the sites of the operators, in the order of the code
abbrev pub expr_operators : Expr → List Site
expr_operators (expr.Number node numeral) = []
expr_operators (expr.Variable path) = []
expr_operators (expr.Binary' node operator l (more_of-Expr left end_of-Expr) r (more_of-Expr right end_of-Expr)) =
    (expr_operators left ++ expr_operators right) ++ record { file = 0; node = node.number } ∷ []

abbrev pub stmt_operators : Stmt → List Site
stmt_operators (Assign node target value) = expr_operators value
