-- The nodes of expressions and initial values: an expression in parentheses has that of the one within.
use Rattle.std.specs.Prelude.{ℕ}
use Rattle.st_tree.specs.declared.node.Node.{Node}
use Rattle.st_tree.specs.declared.expression.Expr.{Expr, fold-Expr}
use Rattle.st_tree.specs.declared.expression.Expr.TheOpen.{Expr-F, Part-F, Argument-F, Path-F}
use Rattle.st_tree.specs.declared.expression.Path.{Path, fold-Path}
use Rattle.st_tree.specs.declared.declaration.Init.{Init, fold-Init}
use Rattle.st_tree.specs.declared.declaration.Init.TheOpen.{Init-F, Item-F, FieldInit-F}

abbrev pub node_in : Expr-F Node ℕ ℕ Node → Node
node_in (Expr-F.Parenthesized node inner) = inner
node_in (Expr-F.Path path) = path
node_in (Expr-F.Number node negative text) = node
node_in (Expr-F.Typed node text) = node
node_in (Expr-F.Time node text) = node
node_in (Expr-F.Truth node truth) = node
node_in (Expr-F.Value node name value_name) = node
node_in (Expr-F.Unary node op x) = node
node_in (Expr-F.Binary node op l r) = node
node_in (Expr-F.Call node name arguments) = node

abbrev pub no_part : Part-F Node ℕ ℕ Node → ℕ
no_part p = 0

abbrev pub no_argument : Argument-F Node ℕ ℕ Node → ℕ
no_argument a = 0

abbrev pub node_of_path : Path-F Node ℕ ℕ Node → Node
node_of_path p = p.node

unfoldable pub expr_node : Expr → Node
expr_node = fold-Expr Node ℕ ℕ Node node_in no_part no_argument node_of_path

unfoldable pub path_node : Path → Node
path_node = fold-Path Node ℕ ℕ Node node_in no_part no_argument node_of_path

abbrev pub init_node_in : Init-F Node ℕ ℕ → Node
init_node_in (Init-F.Value value) = expr_node value
init_node_in (Init-F.Array node items) = node
init_node_in (Init-F.Structure node fields) = node

abbrev pub no_item : Item-F Node ℕ ℕ → ℕ
no_item i = 0

abbrev pub no_field : FieldInit-F Node ℕ ℕ → ℕ
no_field f = 0

unfoldable pub init_node : Init → Node
init_node = fold-Init Node ℕ ℕ init_node_in no_item no_field
