-- Nodes that are numbered one after the other, up to a number.
use Rattle.std.specs.Prelude.{◌≡◌, ℕ, ◌+◌, List, length}
use Rattle.st_tree.specs.declared.node.Node.{Node}
use Rattle.first_form.specs.Nodes.{CountsFrom}

abbrev pub Counts : ℕ → List Node → ℕ → Type 0
Counts n nodes m = CountsFrom n nodes × (m ≡ n + length nodes)
