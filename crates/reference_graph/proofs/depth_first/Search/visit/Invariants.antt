use Rattle.std.proofs.Common.{◌+◌, ◌*◌, length}
use Rattle.reference_graph.specs.steps.DepthFirst.{news}
use Rattle.reference_graph.proofs.Searching.{IsVisit}
use Rattle.reference_graph.proofs.depth_first.Search.visit.Given as goal

abbrev pub invariant-loop-frame : goal.invariant-loop-frame
invariant-loop-frame l =
    IsVisit l.graph l.fn.self.marks.items l.root l.self.marks.items l.self.stack.items l.self.finished.items l.self.cyclic

abbrev pub decreases-loop-frame : goal.decreases-loop-frame
decreases-loop-frame l = 2 * news l.self.marks.items + length l.self.stack.items
