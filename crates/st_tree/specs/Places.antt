-- Nodes by their places, before they are numbered.
use Rattle.std.specs.Prelude.{ℕ}
use Rattle.st_tree.specs.declared.node.Node.{Node}

abbrev pub node_at : (start end : ℕ) → Node
node_at start end = record { number = record { 0 = 0 }; start = start; end = end }
