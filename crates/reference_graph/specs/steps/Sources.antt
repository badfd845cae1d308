-- What is kept while edges are turned round.
use Rattle.std.specs.Prelude.{◌≡◌, ℕ, ◌<◌, ◌⊎◌, List, length}
use Rattle.std.specs.List.{Contains}
use Rattle.reference_graph.specs.Graph.{Rows, targets}

-- each of these nodes has one source more, and no other node has
pub record HaveSource (node : ℕ) (nodes : List ℕ) (before after : Rows) : Type 0 where
  pub long : length after ≡ length before
  pub kept : (b x : ℕ) → Contains (targets before b) x → Contains (targets after b) x
  pub added : (b : ℕ) → b < length before → Contains nodes b → Contains (targets after b) node
  pub only : (b x : ℕ) → Contains (targets after b) x → Contains (targets before b) x ⊎ ((node ≡ x) × Contains nodes b)
