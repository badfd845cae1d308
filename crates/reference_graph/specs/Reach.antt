-- What a node reaches, components and orders. Source: the theory of directed graphs, where a component is a
-- strongly connected one, and an order a topological one of the edges turned round. The code searches; here a way
-- is any way, and nothing is said of how it is found.
use Rattle.std.specs.Prelude.{◌≡◌, ℕ, ◌<◌, ◌⊎◌, ◌↔◌, List, Some, length, get_or, slice_get}
use Rattle.std.specs.List.{Contains}
use Rattle.reference_graph.specs.Graph.{Rows, Edge}

-- a reaches b by one edge, or by an edge and a way
pub data Reaches (g : Rows) : ℕ → ℕ → Type 0 where
  edge : {a b : ℕ} → Edge g a b → Reaches g a b
  way : {a b c : ℕ} → Edge g a b → Reaches g b c → Reaches g a c

-- the same node, or each reaches the other
abbrev pub AreMutual : Rows → ℕ → ℕ → Type 0
AreMutual g a b = (a ≡ b) ⊎ (Reaches g a b × Reaches g b a)

-- A number for each node. Two nodes have one number exactly where they are the same node or reach each other; so
-- the ends of an edge have one exactly where the edge lies on a cycle. The numbers are below the number of nodes.
pub record AreComponents (g : Rows) (numbers : List ℕ) : Type 0 where
  pub nodes : length numbers ≡ length g
  pub below : (a : ℕ) → a < length g → get_or numbers a 0 < length g
  pub same : (a b : ℕ) → a < length g → b < length g
      → (get_or numbers a 0 ≡ get_or numbers b 0) ↔ AreMutual g a b
  pub cycles : (a b : ℕ) → Edge g a b
      → (get_or numbers a 0 ≡ get_or numbers b 0) ↔ ((b ≡ a) ⊎ Reaches g b a)

-- b stands before a
abbrev pub StandsBefore : List ℕ → ℕ → ℕ → Type 0
StandsBefore list b a = (i j : ℕ) × (i < j) × (slice_get list i ≡ Some b) × (slice_get list j ≡ Some a)

-- each node once, its targets before it
pub record IsOrder (g : Rows) (list : List ℕ) : Type 0 where
  pub nodes : (a : ℕ) → Contains list a ↔ (a < length g)
  pub once : (i j a : ℕ) → slice_get list i ≡ Some a → slice_get list j ≡ Some a → i ≡ j
  pub targets_first : (a b : ℕ) → Edge g a b → StandsBefore list b a

-- some node reaches itself
abbrev pub HasCycle : Rows → Type 0
HasCycle g = (a : ℕ) × Reaches g a a
