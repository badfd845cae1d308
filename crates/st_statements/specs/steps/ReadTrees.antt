-- Trees of what is read behind a leading name, and the branches of a CASE as they are read: steps on
-- the way to the trees of the grammar.
use Rattle.std.specs.Prelude.{ℕ, List, [], ◌∷◌, ◌++◌}
use Rattle.std.specs.List.{fold}
use Rattle.st_tree.specs.Places.{node_at}
use Rattle.st_tree.specs.declared.node.Node.{Node}
use Rattle.st_tree.specs.declared.expression.Identifier.{Identifier}
use Rattle.st_tree.specs.declared.expression.Root.TheVariants as root
use Rattle.st_tree.specs.declared.expression.Expr.{Expr}
use Rattle.st_tree.specs.declared.expression.Path.{Path}
use Rattle.st_tree.specs.declared.expression.Part.{Part}
use Rattle.st_tree.specs.declared.expression.Part.TheVariants as part
use Rattle.st_tree.specs.declared.statement.Stmt.{Stmt}
use Rattle.st_tree.specs.declared.statement.Stmt.TheVariants as stmt
use Rattle.st_tree.specs.declared.statement.Case.{Case}
use Rattle.st_tree.specs.declared.statement.Label.{Label}
use Rattle.st_tree.specs.declared.statement.StmtArgument.{StmtArgument}

-- ---- a path behind its name

-- the byte after a part
abbrev pub end_of_part : Part → ℕ
end_of_part (part.Field i) = i.node.end
end_of_part (part.Index' node r xs) = node.end

-- the byte after the last part, or after the name where there is none
abbrev pub end_of_parts : ℕ → List Part → ℕ
end_of_parts end ps = fold (λ before p. end_of_part p) end ps

abbrev pub path_from : Identifier → List Part → Path
path_from name ps = record {
  node = node_at name.node.start (end_of_parts name.node.end ps);
  root = root.Name name;
  parts = ps;
}

-- ---- statements behind a name

-- from a name up to the byte after the semicolon
abbrev pub node_to : Identifier → ℕ → Node
node_to name end = node_at name.node.start end

abbrev pub assign_from : Identifier → Path → Expr → ℕ → Stmt
assign_from name target x end = stmt.Assign (node_to name end) target x

abbrev pub call_from : Identifier → List StmtArgument → ℕ → Stmt
call_from name found end = stmt.Call (node_to name end) name found

-- ---- branches of a CASE, as they are read: those that are whole, and the last one

pub record Branches : Type 0 where
  pub done : List Case
  pub labels : List Label
  pub body : List Stmt

abbrev pub labelled : List Label → Branches
labelled ls = record { done = []; labels = ls; body = [] }

-- all of them
abbrev pub closed : Branches → List Case
closed b = b.done ++ (record { labels = b.labels; body = b.body }) ∷ []

-- with a statement more in the last one
abbrev pub with_stmt : Branches → Stmt → Branches
with_stmt b s = record { done = b.done; labels = b.labels; body = b.body ++ s ∷ [] }

-- with one more behind them
abbrev pub with_labels : Branches → List Label → Branches
with_labels b ls = record { done = closed b; labels = ls; body = [] }
