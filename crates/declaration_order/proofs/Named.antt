-- What a declaration names in one way, it names.
use Rattle.std.proofs.Common.{◌∙◌, ℕ, zero, suc, ◌<◌, Bool, true, false, List, [], ◌∷◌, get_or, cond, flat_map, map, ⊎_elim, sym, subst, arith}
use Rattle.std.specs.List.{Contains}
use Rattle.std.proofs.lemmas.List.{length-map}
use Rattle.std.proofs.lemmas.List.Elements.{Contains-append_left, Contains-append_right, Contains-append_cases}
use Rattle.reference_graph.specs.Graph.{Edge}
use Rattle.project_declarations.specs.Declarations.{Declaration}
use Rattle.declaration_references.specs.References.{Referred, in_declaration}
use Rattle.declaration_order.specs.Leads.{Finds, Wanted, target, targets, graph_of, names}

some_of : (p : Bool) (xs : List ℕ) (b : ℕ) → Contains (cond p xs []) b → Contains xs b
some_of true xs b c = c
some_of false xs b (k, l, is) = absurd (omega arith)

all_in : (f g : Referred → List ℕ) (b : ℕ) → ((r : Referred) → Contains (f r) b → Contains (g r) b)
    → (rs : List Referred) → Contains (flat_map f rs) b → Contains (flat_map g rs) b
all_in f g b h [] c = c
all_in f g b h (r ∷ rs) c = ⊎_elim
    (λ (one : Contains (f r) b). Contains-append_left (g r) (flat_map g rs) b (h r one))
    (λ (rest : Contains (flat_map f rs) b).
    Contains-append_right (g r) (flat_map g rs) b (all_in f g b h rs rest))
    (Contains-append_cases (f r) (flat_map f rs) b c)

rows_in : (f g : Declaration → List ℕ) (b : ℕ)
    → ((x : Declaration) → Contains (f x) b → Contains (g x) b) → (xs : List Declaration) (a : ℕ)
    → Contains (get_or (map f xs) a []) b → Contains (get_or (map g xs) a []) b
rows_in f g b h [] a c = c
rows_in f g b h (x ∷ xs) zero c = h x c
rows_in f g b h (x ∷ xs) (suc a) c = rows_in f g b h xs a c

pub edge_in : (wanted : Wanted) (finds : Finds) (decls : List Declaration) (a b : ℕ)
    → Edge (graph_of wanted finds decls) a b → Edge (graph_of names finds decls) a b
edge_in wanted finds decls a b e = (
  subst (λ (n : ℕ). b < n)
      (length-map decls (targets wanted finds decls) ∙ sym (length-map decls (targets names finds decls)))
      e.0,
  rows_in (targets wanted finds decls) (targets names finds decls) b
      (λ x. all_in (target wanted finds decls x.owner) (target names finds decls x.owner) b
      (λ r. some_of (wanted r.kind) _ b) (in_declaration x))
      decls a e.1,
)
