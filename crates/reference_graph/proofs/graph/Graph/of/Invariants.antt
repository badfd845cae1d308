use Rattle.std.proofs.Common.{◌≡◌, take}
use Rattle.reference_graph.proofs.graph.Graph.of.Given as goal

abbrev pub invariant-loop-row : goal.invariant-loop-row
invariant-loop-row l = l.graph ≡ take l.row-index l.rows
