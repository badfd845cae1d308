-- A unit with each node's number set to 0: what is spelled, before the nodes are numbered. Source:
-- this profile. The code numbers nodes as
-- it reads.
use Rattle.std.specs.Prelude.{ℕ, map}
use Rattle.st_tree.specs.declared.node.Node.{Node}
use Rattle.first_form.specs.declared.tree.Identifier.{Identifier}
use Rattle.first_form.specs.declared.tree.Path.{Path}
use Rattle.first_form.specs.declared.tree.Expr.{Expr, more_of-Expr, end_of-Expr}
use Rattle.first_form.specs.declared.tree.Expr.TheVariants as expr
use Rattle.first_form.specs.declared.tree.Stmt.{Stmt}
use Rattle.first_form.specs.declared.tree.Stmt.TheVariants.{Assign}
use Rattle.first_form.specs.declared.tree.Spec.{Spec}
use Rattle.first_form.specs.declared.tree.Decl.{Decl}
use Rattle.first_form.specs.declared.tree.Section.{Section}
use Rattle.first_form.specs.declared.tree.Unit.{Unit as SourceUnit}

abbrev pub node_at : (start end : ℕ) → Node
node_at start end = record { number = record { 0 = 0 }; start = start; end = end }

abbrev pub bare_node : Node → Node
bare_node node = node_at node.start node.end

abbrev pub bare_identifier : Identifier → Identifier
bare_identifier identifier = record { node = bare_node identifier.node; name = identifier.name }

abbrev pub bare_path : Path → Path
bare_path path = record { node = bare_node path.node; root = bare_identifier path.root }

abbrev pub bare_expr : Expr → Expr
bare_expr (expr.Number node literal) = expr.Number (bare_node node) literal
bare_expr (expr.Variable path) = expr.Variable (bare_path path)
bare_expr (expr.Binary' node operator l (more_of-Expr left end_of-Expr) r
    (more_of-Expr right end_of-Expr)) =
    expr.Binary (bare_node node) operator (bare_expr left) (bare_expr right)

abbrev pub bare_stmt : Stmt → Stmt
bare_stmt (Assign node target value) = Assign (bare_node node) (bare_path target) (bare_expr value)

abbrev pub bare_spec : Spec → Spec
bare_spec spec = record { node = bare_node spec.node; elem = spec.elem }

abbrev pub bare_decl : Decl → Decl
bare_decl decl = record {
  node = bare_node decl.node;
  names = map bare_identifier decl.names;
  spec =
      bare_spec decl.spec;
}

abbrev pub bare_section : Section → Section
bare_section section = record { node = bare_node section.node; decls = map bare_decl section.decls }

abbrev pub bare_unit : SourceUnit → SourceUnit
bare_unit unit = record {
  node = bare_node unit.node;
  name = bare_identifier unit.name;
  sections = map bare_section unit.sections;
  body = map bare_stmt unit.body;
}
