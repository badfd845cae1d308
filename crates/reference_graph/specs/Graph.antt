-- Graphs as contracts see them. Nodes are numbered from 0; for each there is the list of its targets, in which a
-- node may stand more than once. A target that is no node makes no edge.
use Rattle.std.specs.Prelude.{◌≡◌, ℕ, ◌<◌, List, [], ◌∷◌, ◌++◌, length, get_or}
use Rattle.std.specs.List.{Contains}

-- for each node its targets
abbrev pub Rows : Type 0
Rows = List (List ℕ)

-- the targets of a node, none where it is no node
abbrev pub targets : Rows → ℕ → List ℕ
targets g a = get_or g a []

-- there is an edge from a to b
abbrev pub Edge : Rows → ℕ → ℕ → Type 0
Edge g a b = (b < length g) × Contains (targets g a) b

-- the same nodes, and the last one has one target more, at the end of its list
abbrev pub with_target : Rows → ℕ → Rows
with_target [] b = []
with_target (row ∷ []) b = (row ++ b ∷ []) ∷ []
with_target (row ∷ next ∷ rows) b = row ∷ with_target (next ∷ rows) b

-- the same nodes, with each edge the other way round
pub record IsTransposed (g t : Rows) : Type 0 where
  pub nodes : length t ≡ length g
  pub forth : (a b : ℕ) → Edge g a b → Edge t b a
  pub back : (a b : ℕ) → Edge t b a → Edge g a b
