-- The nodes of a tree: an outer one before those within it, and these in the order of the text.
-- Source: this profile. The code numbers
-- nodes as it reads.
use Rattle.std.specs.Prelude.{◌≡◌, ℕ, suc, List, [], ◌∷◌, ◌++◌, map, flat_map}
use Rattle.st_tree.specs.declared.node.Node.{Node}
use Rattle.first_form.specs.declared.tree.Identifier.{Identifier}
use Rattle.first_form.specs.declared.tree.Path.{Path}
use Rattle.first_form.specs.declared.tree.Expr.{Expr, more_of-Expr, end_of-Expr}
use Rattle.first_form.specs.declared.tree.Expr.TheVariants as expr
use Rattle.first_form.specs.declared.tree.Stmt.{Stmt}
use Rattle.first_form.specs.declared.tree.Stmt.TheVariants as stmt
use Rattle.first_form.specs.declared.tree.Decl.{Decl}
use Rattle.first_form.specs.declared.tree.Section.{Section}
use Rattle.first_form.specs.declared.tree.Unit.{Unit as SourceUnit}
use Rattle.first_form.specs.declared.tree.SourceTree.{SourceTree}

-- the node of an expression itself
abbrev pub place_of : Expr → Node
place_of (expr.Number node literal) = node
place_of (expr.Variable path) = path.node
place_of (expr.Binary' node operator l left r right) = node

abbrev pub path_nodes : Path → List Node
path_nodes path = path.node ∷ path.root.node ∷ []

abbrev pub expr_nodes : Expr → List Node
expr_nodes (expr.Number node literal) = node ∷ []
expr_nodes (expr.Variable path) = path_nodes path
expr_nodes (expr.Binary' node operator l (more_of-Expr left end_of-Expr) r
    (more_of-Expr right end_of-Expr)) = node ∷ (expr_nodes left ++ expr_nodes right)

abbrev pub stmt_nodes : Stmt → List Node
stmt_nodes (stmt.Assign node target value) = node ∷ (path_nodes target ++ expr_nodes value)

abbrev pub name_node : Identifier → Node
name_node identifier = identifier.node

abbrev pub decl_nodes : Decl → List Node
decl_nodes decl = decl.node ∷ (map name_node decl.names ++ decl.spec.node ∷ [])

abbrev pub section_nodes : Section → List Node
section_nodes section = section.node ∷ flat_map decl_nodes section.decls

abbrev pub unit_nodes : SourceUnit → List Node
unit_nodes unit =
    unit.node ∷ (unit.name.node ∷ (flat_map section_nodes unit.sections ++ flat_map stmt_nodes
    unit.body))

abbrev pub nodes_of : SourceTree → List Node
nodes_of tree = flat_map unit_nodes tree.units

-- The nodes are numbered one after the other from this number on.
abbrev pub CountsFrom : ℕ → List Node → Type 0
CountsFrom n [] = Unit {0}
CountsFrom n (node ∷ nodes) = (node.number.0 ≡ n) × CountsFrom (suc n) nodes

-- The nodes of a file are numbered from 0.
abbrev pub IsNumbered : SourceTree → Type 0
IsNumbered tree = CountsFrom 0 (nodes_of tree)
