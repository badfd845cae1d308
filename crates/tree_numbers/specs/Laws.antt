-- What numbering does to a tree.
use Rattle.std.specs.Prelude.{ℕ, ◌+◌, ◌≡◌, List, ◌++◌, length, map, slice_get}
use Rattle.std.specs.Option.{option_map}
use Rattle.st_tree.specs.declared.node.Node.{Node}
use Rattle.st_tree.specs.declared.file.FilePart.{FilePart}
use Rattle.tree_numbers.specs.declared.numbers.Counting.{Counting}
use Rattle.tree_numbers.specs.NodeLists.{nodes_of_parts}
use Rattle.tree_numbers.specs.Bare.{bare_parts}
use Rattle.tree_numbers.specs.NumberedAt.{numbered_at}
use Rattle.tree_numbers.specs.Numbers.{numbered_parts}

-- those nodes, each with its number, and a counter that is so many nodes further
pub record AreNumbered (nodes new_nodes : List Node) (from to : Counting) : Type 0 where
  pub numbers : (k : ℕ) →
      slice_get new_nodes k
      ≡ option_map (numbered_at from.comments (length from.starts + k)) (slice_get nodes k)
  pub starts : to.starts ≡ from.starts ++ map (λ node. node.start) nodes
  pub comments : to.comments ≡ from.comments

-- Numbered parts of a file are the same parts, but for the numbers of their nodes.
abbrev pub SameParts : Type 0
SameParts =
    (comments : List ℕ) (parts : List FilePart) →
    bare_parts (numbered_parts comments parts) ≡ bare_parts parts

-- Their nodes are those of the parts, in their order, each with the number that the nodes and
-- comments before it give.
abbrev pub RightNumbers : Type 0
RightNumbers =
    (comments : List ℕ) (parts : List FilePart) (k : ℕ) →
    slice_get (nodes_of_parts (numbered_parts comments parts)) k
    ≡ option_map (numbered_at comments k) (slice_get (nodes_of_parts parts) k)
