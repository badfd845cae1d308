-- The number of a node: how many nodes and comments of the file come before it.
use Rattle.std.specs.Prelude.{ℕ, ◌+◌, List, ltb}
use Rattle.std.specs.List.{count_by}
use Rattle.st_tree.specs.declared.node.Node.{Node}

-- how many of these places lie before that one
unfoldable pub before : List ℕ → ℕ → ℕ
before places place = count_by (λ x. ltb x place) places

-- a node with the number that so many of its own kind before it give, and those of the others that
-- start before it
abbrev pub numbered_at : (others : List ℕ) → (place : ℕ) → Node → Node
numbered_at others place node = record {
  number = record { 0 = place + before others node.start };
  start = node.start;
  end = node.end;
}
