-- Trees with their nodes numbered from 0, in a file whose comments start at these places. The steps
-- give each node its number as the code does; the laws say what that comes to.
use Rattle.std.specs.Prelude.{ℕ, List, [], map}
use Rattle.st_tree.specs.declared.expression.Expr.{Expr}
use Rattle.st_tree.specs.declared.statement.Stmt.{Stmt}
use Rattle.st_tree.specs.declared.chart.Sfc.{Sfc}
use Rattle.st_tree.specs.declared.file.FilePart.{FilePart}
use Rattle.tree_numbers.specs.declared.numbers.Counting.{Counting}
use Rattle.tree_numbers.specs.steps.Turns.{each}
use Rattle.tree_numbers.specs.steps.Counted.{counted_expr, counted_stmt, counted_sfc, counted_file_part}

-- before the first node
abbrev pub fresh : List ℕ → Counting
fresh comments = record { comments = comments; starts = [] }

abbrev pub numbered_expr : (comments : List ℕ) → Expr → Expr
numbered_expr comments x = (counted_expr x (fresh comments)).0

abbrev pub numbered_stmts : (comments : List ℕ) → List Stmt → List Stmt
numbered_stmts comments xs = (each (map counted_stmt xs) (fresh comments)).0

abbrev pub numbered_sfc : (comments : List ℕ) → Sfc → Sfc
numbered_sfc comments x = (counted_sfc x (fresh comments)).0

abbrev pub numbered_parts : (comments : List ℕ) → List FilePart → List FilePart
numbered_parts comments parts = (each (map counted_file_part parts) (fresh comments)).0
