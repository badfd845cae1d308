-- An order in which what declarations are can be computed: each behind those that it waits for. Source:
-- this profile: a declaration waits for those to which it leads and which don't lead back to it, and for
-- the types of the values that it names. A value's type that waits for the very declaration that names
-- the value is none of them: its values are known by how the type is written.
use Rattle.std.specs.Prelude.{◌≡◌, ℕ, ◌<◌, ◌↔◌, List, Some, length, slice_get}
use Rattle.std.specs.List.{Contains}
use Rattle.reference_graph.specs.Graph.{Edge}
use Rattle.reference_graph.specs.Reach.{AreMutual, StandsBefore}
use Rattle.project_declarations.specs.Declarations.{Declaration}
use Rattle.declaration_order.specs.Leads.{Finds, graph_of, leads, names_a_value, names}

-- each declaration once, behind those that it waits for
pub record IsComputingOrder (finds : Finds) (decls : List Declaration) (list : List ℕ) : Type 0 where
  pub all : (a : ℕ) → Contains list a ↔ (a < length decls)
  pub once : (i j a : ℕ) → slice_get list i ≡ Some a → slice_get list j ≡ Some a → i ≡ j
  pub leads_first : (a b : ℕ) → Edge (graph_of leads finds decls) a b
      → ¬ (AreMutual (graph_of leads finds decls) a b) → StandsBefore list b a
  pub values_first : (a b : ℕ) → Edge (graph_of names_a_value finds decls) a b
      → ¬ (AreMutual (graph_of names finds decls) a b) → StandsBefore list b a
