use Rattle.reference_graph.proofs.Turning.{AreSources}
use Rattle.reference_graph.proofs.transposed.transposed.Given as goal

abbrev pub invariant-loop-node : goal.invariant-loop-node
invariant-loop-node l = AreSources l.graph l.sources.items l.node
