-- What the searches by halves find, as the first item of a list that holds a node. Source: this profile. The code compares the number of
-- the node with those of the items' first nodes.
use Rattle.std.specs.Prelude.{◌≡◌, ℕ, zero, suc, true, List, Option, None, slice_get}
use Rattle.st_tree.specs.declared.node.Node.{Node}
use Rattle.st_tree.specs.declared.node.NodeNo.{NodeNo}
use Rattle.first_form.specs.Nodes.{CountsFrom}
use Rattle.finding_spans.specs.Places.{has_number}

-- The nodes are numbered one after the other, and the node of that number is one of them.
pub record IsAmong (number : NodeNo) (nodes : List Node) : Type 0 where
  pub from : ℕ
  pub counts : CountsFrom from nodes
  pub has : has_number number nodes ≡ true

-- the last of the first so many
abbrev pub last_of_first : {X : Type 0} → List X → ℕ → Option X
last_of_first xs zero = None
last_of_first xs (suc n) = slice_get xs n
