-- The code as it is built.
use Rattle.std.proofs.Common.{◌≡◌, ◌≤◌, ◌<◌, ℕ, List, ◌++◌, Option, refl, subst, arith}
use Rattle.first_form.specs.declared.tree.Expr.TheBlock as block
use denote.Hole.Rolled.{depth_falls, depth_is}
use Rattle.iec_tables.specs.declared.elem.Elem.TheVariants as elem
use Rattle.st_tree.specs.declared.node.Node.{Node}
use Rattle.st_tree.specs.declared.code.Operator.{Operator}
use Rattle.first_form.specs.declared.tree.Path.{Path}
use Rattle.first_form.specs.declared.tree.Expr.{Expr, size-Expr}
use Rattle.first_form.specs.declared.tree.Expr.TheVariants as expr
use Rattle.first_form.specs.declared.tree.Stmt.{Stmt}
use Rattle.first_form.specs.declared.tree.Stmt.TheVariants as stmt
use Rattle.st_tree.specs.Code.{Instructions, Operate, Write, reading}
use Rattle.st_tree.specs.declared.code.Cell.{Cell}
use Rattle.st_tree.specs.declared.code.Code.{Code}
use Rattle.std.specs.Prelude.{Result, IfOk}
use Rattle.task_config.specs.Written.{written_value, written_cell, written_stmt, written_literals}

pub binary_value : (place : List ℕ → Option ℕ) (node : Node) (operator : Operator) (left right : Expr) (rest : Instructions)
    → written_value place (expr.Binary node operator left right) rest
    ≡ written_value place left (written_value place right (Operate (record { site = record { file = 0; node = node.number }; elem = elem.Int; operator = operator }) rest))
unfolding Rattle.first_form.specs.declared.tree.Expr.TheBlock.hidden-the_row-Expr-0 denote.Hole.Carrier.hidden
binary_value place node operator left right rest = refl

pub binary_literals : (node : Node) (operator : Operator) (left right : Expr) → written_literals (expr.Binary node operator left right) ≡ written_literals right ++ written_literals left
unfolding Rattle.first_form.specs.declared.tree.Expr.TheBlock.hidden-the_row-Expr-0 denote.Hole.Carrier.hidden
binary_literals node operator left right = refl

pub left_smaller : (node : Node) (operator : Operator) (left right : Expr) → size-Expr left ≤ size-Expr (expr.Binary node operator left right)
unfolding Rattle.first_form.specs.declared.tree.Expr.TheBlock.hidden-the_row-Expr-0 denote.Hole.Carrier.hidden block.the_depth denote.Hole.Carrier.out denote.Hole.Rolled.depth block.shown-the_row-Expr-0 denote.Hole.Carrier.shown
left_smaller node operator left right =
    let h = depth_falls block.the_members block.the_sigs block.the_carrier block.member-Expr (expr.Binary node operator left right) (size-Expr (expr.Binary node operator left right)) (omega arith) in
    let e : size-Expr left < size-Expr (expr.Binary node operator left right) = h.0 in
    omega arith

pub assign_written : (place : List ℕ → Option ℕ) (node : Node) (target : Path) (value : Expr) (rest : Instructions)
    → written_stmt place (stmt.Assign node target value) rest ≡ written_value place value (Write (written_cell place target) rest)
assign_written place node target value rest = refl

-- what reads as one reads as its equal
pub reads_same : {E : Type 0} (result : Result Code E) (x y : Instructions) → IfOk result (λ code. reading code ≡ x) → x ≡ y → IfOk result (λ code. reading code ≡ y)
reads_same result x y h e = subst (λ z. IfOk result (λ code. reading code ≡ z)) e h

pub assign_case : (place : List ℕ → Option ℕ) (statement : Stmt) (n m : Node) (t u : Path) (v w : Expr) (cell : Cell) (r rest : Instructions)
    → statement ≡ stmt.Assign n t v → statement ≡ stmt.Assign m u w → cell ≡ written_cell place t → r ≡ rest → written_value place w (Write cell r) ≡ written_stmt place statement rest
assign_case place statement n m t u v w cell r rest e f c d =
    let a = assign_written place m u w rest in
    cc
