-- The order of the nodes of a tree, in terms of its nodes and their bytes alone. Source: this
-- profile. The code gives each node its number on a way through the tree; nothing here speaks of
-- that way. A list of nodes stands for a collection: it is asked what it contains and how often,
-- never in which order. So an exchange of two parts is refused here, even one that is made in the
-- code and in the list of nodes alike: of the two operands of an operator, numbers no longer rise
-- with first bytes; of a path and its only name, the path no longer comes before what stands within
-- it.
use Rattle.std.specs.Prelude.{◌≡◌, ◌⊎◌, ℕ, ◌<◌, ◌≤◌, List, ◌++◌, map, length, Contains, count_by}
use Rattle.std.specs.Prelude.{flat_map, nat_eq, Some}
use Rattle.st_tree.specs.declared.node.Node.{Node}
use Rattle.st_tree.specs.declared.file.SourceTree.{SourceTree}
use Rattle.tree_numbers.specs.NodeLists.{nodes_of_unit, nodes_of_types, nodes_of_globals}
use Rattle.tree_numbers.specs.NodeLists.{nodes_of_config}
use Rattle.st_units.specs.SourceTrees.{IsTreeOf}
use Rattle.tree_order.specs.Subtrees.{Tree, layer_of, Encloses, IsPartOf}

-- the nodes of a tree, its comments among them
abbrev pub nodes_of_tree : SourceTree → List Node
nodes_of_tree tree =
    flat_map nodes_of_unit tree.units
    ++ (flat_map nodes_of_types tree.types
    ++ (flat_map nodes_of_globals tree.globals
    ++ (flat_map nodes_of_config tree.config
    ++ map (λ comment. comment.node) tree.comments)))

abbrev pub number_of : Node → ℕ
number_of node = node.number.0

-- The second stands within the bytes of the first.
abbrev pub Surrounds : Node → Node → Type 0
Surrounds outer inner = (outer.start ≤ inner.start) × (inner.end ≤ outer.end)

-- Their bytes are apart.
abbrev pub AreApart : Node → Node → Type 0
AreApart a b = (a.end ≤ b.start) ⊎ (b.end ≤ a.start)

-- The nodes of a text of so many bytes are numbered in its order.
pub record AreNumberedInOrder (bytes : ℕ) (nodes : List Node) : Type 0 where
  -- each has a byte or more, and stands in the text;
  pub within : (a : Node) → Contains nodes a → (a.start < a.end) × (a.end ≤ bytes)
  -- two of them are apart, or one is within the other;
  pub nested : (a b : Node) → Contains nodes a → Contains nodes b →
      AreApart a b ⊎ Surrounds a b ⊎ Surrounds b a
  -- numbers rise with first bytes;
  pub rising : (a b : Node) → Contains nodes a → Contains nodes b → a.start < b.start →
      number_of a < number_of b
  -- of two that start together, the one that holds the other comes first;
  pub outer : (a b : Node) → Contains nodes a → Contains nodes b → a.start ≡ b.start →
      b.end < a.end → number_of a < number_of b
  -- and each number from 0 up to the count of nodes is that of one, and of no other.
  pub below : (a : Node) → Contains nodes a → number_of a < length nodes
  pub once : (number : ℕ) → number < length nodes →
      count_by (λ node. nat_eq (number_of node) number) nodes ≡ 1

-- So are the nodes of each tree.
abbrev pub NodesInOrder : Type 0
NodesInOrder =
    (text : List ℕ) (tree : SourceTree) → IsTreeOf text tree →
    AreNumberedInOrder (length text) (nodes_of_tree tree)

-- They are the nodes of the parts of the tree and of its comments, and no others.
abbrev pub PartsOfNodes : Type 0
PartsOfNodes =
    (tree : SourceTree) (node : Node) → Contains (nodes_of_tree tree) node →
    ((part : Tree) × IsPartOf tree part × ((layer_of part).node ≡ Some node))
    ⊎ Contains (map (λ comment. comment.node) tree.comments) node

-- The node of each part of a tree is one of them,
abbrev pub NodesOfParts : Type 0
NodesOfParts =
    (tree : SourceTree) (part : Tree) (node : Node) → IsPartOf tree part →
    (layer_of part).node ≡ Some node → Contains (nodes_of_tree tree) node

-- and comes before those of the parts within, also where they have the same bytes: a path comes
-- before its only name.
abbrev pub PartsInOrder : Type 0
PartsInOrder =
    (text : List ℕ) (tree : SourceTree) → IsTreeOf text tree →
    (outer inner : Tree) (a b : Node) → IsPartOf tree outer → Encloses outer inner →
    (layer_of outer).node ≡ Some a → (layer_of inner).node ≡ Some b → number_of a < number_of b
