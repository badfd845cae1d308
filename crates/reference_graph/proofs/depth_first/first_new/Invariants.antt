use Rattle.std.proofs.Common.{ℕ, ◌<◌, ◌≤◌, slice_index}
use Rattle.reference_graph.specs.steps.DepthFirst.{IsSeen}
use Rattle.reference_graph.proofs.depth_first.first_new.Given as goal

abbrev pub invariant-loop-at : goal.invariant-loop-at
invariant-loop-at l = (k : ℕ) → l.from ≤ k → k < l.at → IsSeen l.marks (slice_index l.row k)
