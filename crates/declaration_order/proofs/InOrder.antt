-- From an order of the code's graph to one in which declarations can be computed.
use Rattle.std.proofs.Common.{◌≡◌, ◌∙◌, ℕ, ◌<◌, List, length, sym, subst}
use Rattle.std.proofs.lemmas.List.{length-map}
use Rattle.reference_graph.specs.Graph.{Rows}
use Rattle.reference_graph.specs.Reach.{AreComponents, IsOrder, HasCycle}
use Rattle.project_declarations.specs.Declarations.{Declaration}
use Rattle.declaration_order.specs.Leads.{Finds, targets, graph_of, leads, names_a_value, names}
use Rattle.declaration_order.specs.Computable.{IsComputingOrder}
use Rattle.declaration_order.specs.steps.Waiting.{AreWaits}
use Rattle.declaration_order.proofs.Waits.{never, leads-wait, values-wait}
use Rattle.declaration_order.proofs.Named.{edge_in}

module _ (finds : Finds) (decls : List Declaration) (l v f : Rows) (nl nf : List ℕ) (w : Rows)
    (el : l ≡ graph_of leads finds decls) (ev : v ≡ graph_of names_a_value finds decls)
    (ef : f ≡ graph_of names finds decls) (cl : AreComponents (graph_of leads finds decls) nl)
    (cf : AreComponents f nf) (aw : AreWaits l nl v nf (length l) w) where
  abbrev L : Rows
  L = graph_of leads finds decls

  abbrev V : Rows
  V = graph_of names_a_value finds decls

  abbrev F : Rows
  F = graph_of names finds decls

  components : AreComponents F nf
  components = subst (λ (g : Rows). AreComponents g nf) ef cf

  waits : AreWaits L nl V nf (length L) w
  waits = subst (λ (g : Rows). AreWaits g nl V nf (length g) w) el
      (subst (λ (g : Rows). AreWaits l nl g nf (length l) w) ev aw)

  long-l : length L ≡ length decls
  long-l = length-map decls (targets leads finds decls)

  long-v : length V ≡ length L
  long-v = length-map decls (targets names_a_value finds decls) ∙ sym long-l

  long-f : length F ≡ length L
  long-f = length-map decls (targets names finds decls) ∙ sym long-l

  pub no_cycle : HasCycle w → ⊥
  no_cycle = never L V F nl nf w cl components waits long-v long-f
      (edge_in leads finds decls) (edge_in names_a_value finds decls)

  long : length w ≡ length decls
  long = waits.nodes ∙ long-l

  pub computing : (list : List ℕ) → IsOrder w list → IsComputingOrder finds decls list
  computing list o = record {
    all = λ a. (
      λ c. subst (λ (n : ℕ). a < n) long ((o.nodes a).0 c),
      λ m. (o.nodes a).1 (subst (λ (n : ℕ). a < n) (sym long) m),
    );
    once = o.once;
    leads_first = λ a b e n. o.targets_first a b
        (leads-wait L V F nl nf w cl components waits long-v long-f
        (edge_in leads finds decls) (edge_in names_a_value finds decls) a b e n);
    values_first = λ a b e n. o.targets_first a b
        (values-wait L V F nl nf w cl components waits long-v long-f
        (edge_in leads finds decls) (edge_in names_a_value finds decls) a b e n);
  }
