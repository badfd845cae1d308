-- How a graph is stored: the targets of all nodes in one list, and for each node where its own begin.
use Rattle.std.specs.Prelude.{ℕ, ◌≤◌, List, [], ◌∷◌, length, get_or}
use Rattle.std.specs.List.{slice_range}
use Rattle.reference_graph.specs.Graph.{Rows}

-- the lists of targets that are stored so
abbrev pub rows : List ℕ → List ℕ → Rows
rows [] targets = []
rows (start ∷ starts) targets = slice_range targets start (get_or starts 0 (length targets)) ∷ rows starts targets

-- no start lies behind the next one, nor behind the end
abbrev pub AreStarts : List ℕ → ℕ → Type 0
AreStarts [] end = Unit {0}
AreStarts (start ∷ starts) end = (start ≤ get_or starts 0 end) × (get_or starts 0 end ≤ end) × AreStarts starts end
