use Rattle.std.proofs.Common.{◌≡◌, ℕ, ◌<◌, []}
use Rattle.reference_graph.specs.steps.DepthFirst.{IsSearch, IsSeen}
use Rattle.reference_graph.proofs.depth_first.depth_first.Given as goal

abbrev pub invariant-loop-root : goal.invariant-loop-root
invariant-loop-root l = record {
  stack : l.search.stack.items ≡ [];
  search : IsSearch l.graph l.search.marks.items [] l.search.finished.items l.search.cyclic;
  seen : (x : ℕ) → x < l.root → IsSeen l.search.marks.items x;
}
