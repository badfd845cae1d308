-- The trees of statements, made of what is spelled and where it stands.
use Rattle.std.specs.Prelude.{ℕ, Bool, List, Option, Some, None}
use Rattle.st_tree.specs.Places.{node_at}
use Rattle.st_tree.specs.declared.expression.Identifier.{Identifier}
use Rattle.st_tree.specs.declared.expression.Expr.{Expr}
use Rattle.st_tree.specs.declared.expression.Path.{Path}
use Rattle.st_tree.specs.declared.statement.Stmt.{Stmt}
use Rattle.st_tree.specs.declared.statement.Stmt.TheVariants as stmt
use Rattle.st_tree.specs.declared.statement.Branch.{Branch}
use Rattle.st_tree.specs.declared.statement.Case.{Case}
use Rattle.st_tree.specs.declared.statement.Counter.{Counter}
use Rattle.st_tree.specs.declared.statement.Label.{Label}
use Rattle.st_tree.specs.declared.statement.Point.{Point}
use Rattle.st_tree.specs.declared.statement.Point.TheVariants as point
use Rattle.st_tree.specs.declared.statement.StmtArgument.{StmtArgument}
use Rattle.st_tree.specs.declared.statement.StmtArgument.TheVariants as argument
use Rattle.st_expr.specs.Trees.{Text}

-- ---- statements

-- what a statement's argument turns out to be behind its name: a tree for each place
abbrev pub ArgumentEnding : Type 0
ArgumentEnding = ℕ → ℕ → StmtArgument

abbrev pub argument_ended : ℕ → ℕ → ArgumentEnding → StmtArgument
argument_ended start end f = f start end

abbrev pub input_of : Identifier → Expr → ArgumentEnding
input_of name x start end = argument.Input (node_at start end) name x

abbrev pub output_of : Identifier → Path → ArgumentEnding
output_of name target start end = argument.Output (node_at start end) name target

abbrev pub make_call : ℕ → ℕ → Identifier × List StmtArgument → Stmt
make_call start end p = stmt.Call (node_at start end) p.0 p.1

abbrev pub make_assign : ℕ → ℕ → Path × Expr → Stmt
make_assign start end p = stmt.Assign (node_at start end) p.0 p.1

-- RETURN, EXIT, CONTINUE
abbrev pub make_return : ℕ → ℕ → Unit {0} → Stmt
make_return start end u = stmt.Return (node_at start end)

abbrev pub make_exit : ℕ → ℕ → Unit {0} → Stmt
make_exit start end u = stmt.Exit (node_at start end)

abbrev pub make_continue : ℕ → ℕ → Unit {0} → Stmt
make_continue start end u = stmt.Continue (node_at start end)

abbrev pub branch_of : Expr → List Stmt → Branch
branch_of c body = record { condition = c; body = body }

abbrev pub make_if : ℕ → ℕ → List Branch × Option (List Stmt) → Stmt
make_if start end p = stmt.If (node_at start end) p.0 p.1

abbrev pub case_of : List Label → List Stmt → Case
case_of ls body = record { labels = ls; body = body }

abbrev pub make_case : ℕ → ℕ → Expr × List Case × Option (List Stmt) → Stmt
make_case start end p = stmt.Case (node_at start end) p.0 p.1 p.2

-- how a FOR counts
abbrev pub counter_of : Identifier × Expr → Expr → Option Expr → Counter
counter_of p last by = record { variable = p.0; first = p.1; last = last; step = by }

abbrev pub make_for : ℕ → ℕ → Counter × List Stmt → Stmt
make_for start end p = stmt.For (node_at start end) p.0 p.1

abbrev pub make_while : ℕ → ℕ → Expr × List Stmt → Stmt
make_while start end p = stmt.While (node_at start end) p.0 p.1

abbrev pub make_repeat : ℕ → ℕ → List Stmt × Expr → Stmt
make_repeat start end p = stmt.Repeat (node_at start end) p.0 p.1

-- ---- labels

abbrev pub make_point_number : Bool → ℕ → ℕ → Text → Point
make_point_number negative start end text = point.Number (node_at start end) negative text

abbrev pub make_point_typed : ℕ → ℕ → Text → Point
make_point_typed start end text = point.Typed (node_at start end) text

abbrev pub point_value : Identifier → Identifier → Point
point_value name value = point.Value (node_at name.node.start value.node.end) name value

-- the first byte of a point, and the byte after its last
abbrev pub start_of_point : Point → ℕ
start_of_point (point.Number node negative text) = node.start
start_of_point (point.Typed node text) = node.start
start_of_point (point.Name name) = name.node.start
start_of_point (point.Value node name value) = node.start

abbrev pub end_of_point : Point → ℕ
end_of_point (point.Number node negative text) = node.end
end_of_point (point.Typed node text) = node.end
end_of_point (point.Name name) = name.node.end
end_of_point (point.Value node name value) = node.end

abbrev pub label_to : Point → Option Point → ℕ → Label
label_to first last end =
    record { node = node_at (start_of_point first) end; first = first; last = last }

abbrev pub single : Point → Label
single first = label_to first None (end_of_point first)

abbrev pub range_to : Point → Point → Label
range_to first last = label_to first (Some last) (end_of_point last)
