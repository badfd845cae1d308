-- The places of nodes and bytes. Source: this profile. The code searches statements and declarations by halves, and counts line feeds by the
-- tree's list of them.
use Rattle.std.specs.Prelude.{◌≡◌, ◌⊎◌, ℕ, ◌+◌, Bool, nat_eq, List, [], ◌∷◌, ◌++◌, length, map, flat_map, take, if◌then◌else◌, Option, Some, None}
use Rattle.std.specs.List.{list_any, filter}
use Rattle.st_tree.specs.declared.node.Node.{Node}
use Rattle.st_tree.specs.declared.node.NodeNo.{NodeNo}
use Rattle.first_form.specs.declared.tree.Stmt.{Stmt}
use Rattle.first_form.specs.declared.tree.Stmt.TheVariants.{Assign}
use Rattle.first_form.specs.declared.tree.Decl.{Decl}
use Rattle.first_form.specs.declared.tree.Unit.{Unit as SourceUnit}
use Rattle.first_form.specs.declared.tree.SourceTree.{SourceTree}
use Rattle.first_form.specs.Nodes.{stmt_nodes, decl_nodes, unit_nodes, name_node}

-- ---- positions: lines count line feeds, columns bytes, both from 1

-- how many line feeds there are
abbrev pub feeds : List ℕ → ℕ
feeds [] = 0
feeds (byte ∷ bytes) = (if nat_eq byte 10 then 1 else 0) + feeds bytes

-- What follows these bytes stands in this line and column: they are whole lines, and then the part of a line.
pub record IsBehind (before : List ℕ) (line column : ℕ) : Type 0 where
  pub lines : List ℕ
  pub part : List ℕ
  pub bytes : before ≡ lines ++ part
  pub whole : (lines ≡ []) ⊎ ((rest : List ℕ) × (lines ≡ rest ++ 10 ∷ []))
  pub one : feeds part ≡ 0
  pub line_is : line ≡ feeds lines + 1
  pub column_is : column ≡ length part + 1

-- The byte stands in this line and column.
abbrev pub IsPosition : List ℕ → (at line column : ℕ) → Type 0
IsPosition text at line column = IsBehind (take at text) line column

-- ---- the node that a node is reported at

-- whether the node of that number is one of these
abbrev pub has_number : NodeNo → List Node → Bool
has_number number nodes = list_any (λ node. nat_eq node.number.0 number.0) nodes

-- a declaration name, statement or unit, and the nodes that it holds
pub record Holder : Type 0 where
  pub node : Node
  pub held : List Node

abbrev pub alone : Node → Holder
alone node = record { node = node; held = node ∷ [] }

-- the first name of a declaration holds the declaration, each further one itself
abbrev pub name_holders : List Node → List Node → List Holder
name_holders [] held = []
name_holders (first ∷ others) held = record { node = first; held = held } ∷ map alone others

abbrev pub decl_holders : Decl → List Holder
decl_holders decl = name_holders (map name_node decl.names) (decl_nodes decl)

abbrev pub stmt_node : Stmt → Node
stmt_node (Assign node target value) = node

abbrev pub stmt_holder : Stmt → Holder
stmt_holder stmt = record { node = stmt_node stmt; held = stmt_nodes stmt }

-- an outer one before those within it
abbrev pub unit_holders : SourceUnit → List Holder
unit_holders unit =
    record { node = unit.node; held = unit_nodes unit }
    ∷ (flat_map (λ section. flat_map decl_holders section.decls) unit.sections ++ map stmt_holder unit.body)

abbrev pub holds : NodeNo → Holder → Bool
holds number holder = has_number number holder.held

abbrev pub last_of : List Holder → Option Node
last_of [] = None
last_of (holder ∷ []) = Some holder.node
last_of (holder ∷ next ∷ more) = last_of (next ∷ more)

-- the innermost declaration name, statement or unit that holds the node of that number
abbrev pub holder_of : SourceTree → NodeNo → Option Node
holder_of tree number = last_of (filter (holds number) (flat_map unit_holders tree.units))

-- The node of that number is reported at this byte.
abbrev pub IsReportedAt : SourceTree → NodeNo → ℕ → Type 0
IsReportedAt tree number at = (node : Node) × (holder_of tree number ≡ Some node) × (at ≡ node.start)
