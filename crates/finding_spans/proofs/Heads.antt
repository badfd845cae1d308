-- The first node of each part of a tree, and the nodes after it.
use Rattle.std.proofs.Common.{◌≡◌, List, [], ◌∷◌, ◌++◌, refl}
use Rattle.std.specs.Prelude.{map, flat_map}
use Rattle.st_tree.specs.declared.node.Node.{Node}
use Rattle.first_form.specs.declared.tree.Stmt.{Stmt}
use Rattle.first_form.specs.declared.tree.Stmt.TheVariants.{Assign}
use Rattle.first_form.specs.declared.tree.Decl.{Decl}
use Rattle.first_form.specs.declared.tree.Section.{Section}
use Rattle.first_form.specs.declared.tree.Unit.{Unit as SourceUnit}
use Rattle.first_form.specs.Nodes.{path_nodes, expr_nodes, stmt_nodes, name_node, decl_nodes, section_nodes, unit_nodes}
use Rattle.finding_spans.specs.Places.{stmt_node}

abbrev pub stmt_rest : Stmt → List Node
stmt_rest (Assign node target value) = path_nodes target ++ expr_nodes value

pub stmt_is : (stmt : Stmt) → stmt_nodes stmt ≡ stmt_node stmt ∷ stmt_rest stmt
stmt_is (Assign node target value) = refl

abbrev pub decl_rest : Decl → List Node
decl_rest decl = map name_node decl.names ++ decl.spec.node ∷ []

pub decl_is : (decl : Decl) → decl_nodes decl ≡ decl.node ∷ decl_rest decl
decl_is decl = refl

abbrev pub section_rest : Section → List Node
section_rest section = flat_map decl_nodes section.decls

pub section_is : (section : Section) → section_nodes section ≡ section.node ∷ section_rest section
section_is section = refl

abbrev pub unit_rest : SourceUnit → List Node
unit_rest unit = unit.name.node ∷ (flat_map section_nodes unit.sections ++ flat_map stmt_nodes unit.body)

pub unit_is : (unit : SourceUnit) → unit_nodes unit ≡ unit.node ∷ unit_rest unit
unit_is unit = refl
