-- What is kept while groups of nodes are split into components. Even groups are components, odd ones are yet to
-- be split.
use Rattle.std.specs.Prelude.{◌≡◌, ℕ, ◌+◌, ◌*◌, ◌≤◌, ◌⊎◌, ◌==◌, List, Some, length, slice_get}
use Rattle.std.specs.List.{Contains, count_by}
use Rattle.reference_graph.specs.Graph.{Rows, Edge}
use Rattle.reference_graph.specs.Reach.{Reaches, AreMutual}

-- the root itself, or a node that it reaches
abbrev pub IsFrom : Rows → ℕ → ℕ → Type 0
IsFrom g root x = (root ≡ x) ⊎ Reaches g root x

-- as before, or moved from a group to another, for a reason
abbrev pub IsMoved : ℕ → ℕ → List ℕ → List ℕ → (ℕ → Type 0) → ℕ → Type 0
IsMoved group own before after reason x =
    (slice_get after x ≡ slice_get before x) ⊎ ((slice_get before x ≡ Some group) × (slice_get after x ≡ Some own) × reason x)

-- The root and all that it reaches through nodes of its group were moved to a group of their own, and no other node.
pub record IsSplit (g : Rows) (root group own : ℕ) (before after : List ℕ) : Type 0 where
  pub nodes : length after ≡ length before
  pub rooted : slice_get after root ≡ Some own
  pub moved : (x : ℕ) → IsMoved group own before after (IsFrom g root) x
  pub closed : (x y : ℕ) → slice_get before x ≡ Some group → slice_get after x ≡ Some own → Edge g x y → slice_get before y ≡ Some group
      → slice_get after y ≡ Some own

-- how many nodes are in a group
abbrev pub count_in : ℕ → List ℕ → ℕ
count_in group groups = count_by (λ v. v == group) groups

-- the nodes of a list that are in the group were moved to the other one, and listed behind those found before
pub record IsSpread (row : List ℕ) (group own : ℕ) (before found after found' : List ℕ) : Type 0 where
  pub nodes : length after ≡ length before
  pub moved : (x : ℕ) → IsMoved group own before after (Contains row) x
  pub reached : (x : ℕ) → Contains row x → slice_get before x ≡ Some group → slice_get after x ≡ Some own
  pub listed : (x : ℕ) → slice_get before x ≡ Some group → slice_get after x ≡ Some own → Contains found' x
  pub kept : (i x : ℕ) → slice_get found i ≡ Some x → slice_get found' i ≡ Some x
  pub added : (i x : ℕ) → slice_get found' i ≡ Some x
      → (slice_get found i ≡ Some x) ⊎ ((slice_get before x ≡ Some group) × (slice_get after x ≡ Some own))
  pub counted : length found' + count_in group after ≡ length found + count_in group before
  pub longer : length found ≤ length found'

-- Groups of nodes, where the even ones are whole components. Mutual nodes are in one group, and groups from
-- 2 * count + 2 on are empty.
pub record AreGroups (g : Rows) (groups : List ℕ) (count : ℕ) : Type 0 where
  pub nodes : length groups ≡ length g
  pub small : (a v : ℕ) → slice_get groups a ≡ Some v → (1 ≤ v) × (v ≤ 2 * count + 1)
  pub together : (a b : ℕ) → AreMutual g a b → slice_get groups a ≡ slice_get groups b
  pub whole : (a b k : ℕ) → slice_get groups a ≡ Some (2 * k) → slice_get groups b ≡ Some (2 * k) → AreMutual g a b

-- the component of a node has a group of its own
pub record IsSettled (g : Rows) (node : ℕ) (before : List ℕ) (count : ℕ) (after : List ℕ) (count' : ℕ) : Type 0 where
  pub groups : AreGroups g after count'
  pub settled : (k : ℕ) × (slice_get after node ≡ Some (2 * k))
  pub kept : (a k : ℕ) → slice_get before a ≡ Some (2 * k) → slice_get after a ≡ Some (2 * k)
  pub few : count' ≤ count + 1
