-- Declarations that lead back to themselves. Source: this profile: where the type, the bounds or the
-- initial value of a declaration lead back to it, each bound or initial value on the way that names the
-- next declaration is not constant; a type that leads back to itself by specifications alone holds
-- itself. A bound or an initial value of `a` that names `b` is on the way exactly where `b` leads to `a`.
use Rattle.std.specs.Prelude.{ℕ, Bool, false, nat_eq, List, Option, Some, None, slice_get}
use Rattle.reference_graph.specs.Reach.{AreComponents}
use Rattle.project_declarations.specs.Declarations.{Declaration}
use Rattle.declaration_order.specs.Leads.{Finds, graph_of, leads, leads_by_type, names}

-- for each declaration the number of its component
pub record Components : Type 0 where
  -- of the names by which declarations lead to others
  pub all : List ℕ
  -- of types by their specifications
  pub by_type : List ℕ
  -- of all names, those of the types of values among them
  pub by_names : List ℕ

-- Where `a` names `b`, they have one number exactly where `b` leads back to `a`.
pub record AreDeclComponents (finds : Finds) (decls : List Declaration) (found : Components) : Type 0 where
  pub all : AreComponents (graph_of leads finds decls) found.all
  pub by_type : AreComponents (graph_of leads_by_type finds decls) found.by_type
  pub by_names : AreComponents (graph_of names finds decls) found.by_names

abbrev pub is_one_number : Option ℕ → Option ℕ → Bool
is_one_number (Some m) (Some n) = nat_eq m n
is_one_number (Some m) None = false
is_one_number None n = false

abbrev pub have_one_number : List ℕ → ℕ → ℕ → Bool
have_one_number numbers a b = is_one_number (slice_get numbers a) (slice_get numbers b)

-- two declarations lead to each other, or are one
abbrev pub lead_together : Components → ℕ → ℕ → Bool
lead_together c a b = have_one_number c.all a b

-- by their specifications alone
abbrev pub lead_together_by_type : Components → ℕ → ℕ → Bool
lead_together_by_type c a b = have_one_number c.by_type a b

-- by any names, those of the types of values among them
abbrev pub name_together : Components → ℕ → ℕ → Bool
name_together c a b = have_one_number c.by_names a b
