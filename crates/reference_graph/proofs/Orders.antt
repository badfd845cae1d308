-- From what a search listed to an order.
use Rattle.std.proofs.Common.{◌≡◌, ℕ, Bool, false, List, arith}
use Rattle.reference_graph.specs.Graph.{Rows}
use Rattle.reference_graph.specs.Reach.{Reaches, StandsBefore, IsOrder, HasCycle}
use Rattle.reference_graph.specs.Reach.Reaches.{edge, way}
use Rattle.reference_graph.specs.steps.DepthFirst.{IsSearched}
use Rattle.reference_graph.proofs.Ways.{from_node}

pub ordered : (g : Rows) (list : List ℕ) (cyclic : Bool) → IsSearched g list cyclic → cyclic ≡ false → IsOrder g list
ordered g list cyclic s e = record {
  nodes = λ a. (s.nodes a, s.all a);
  once = s.once;
  targets_first = λ a b d. s.order e a b (s.all a (from_node g a b d)) d;
}

-- what a node reaches stands before it
before : (g : Rows) (list : List ℕ) (a b : ℕ) → IsOrder g list → Reaches g a b → StandsBefore list b a
before g list a b o (edge e) = o.targets_first a b e
before g list a b o (way {b = d} e p) = joined (o.targets_first a d e) (before g list d b o p)
  where
    joined : StandsBefore list d a → StandsBefore list b d → StandsBefore list b a
    joined (i, j, l, p, q) (k, m, n, r, t) =
        let same : i ≡ m = o.once i m d p t in
        (k, j, omega arith, r, q)

pub acyclic : (g : Rows) (list : List ℕ) → IsOrder g list → HasCycle g → ⊥
acyclic g list o (a, p) =
    let (i, j, l, q, r) = before g list a a o p in
    let same : i ≡ j = o.once i j a q r in omega arith
