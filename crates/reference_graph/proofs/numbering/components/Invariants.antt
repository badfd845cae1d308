use Rattle.std.proofs.Common.{length}
use Rattle.reference_graph.proofs.Settling.{IsNumbering}
use Rattle.reference_graph.proofs.numbering.components.Given as goal

abbrev pub invariant-loop-node : goal.invariant-loop-node
invariant-loop-node l = IsNumbering l.graph l.left.items l.groups.items l.count

abbrev pub decreases-loop-node : goal.decreases-loop-node
decreases-loop-node l = length l.left.items
