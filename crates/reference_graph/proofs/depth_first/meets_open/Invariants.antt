use Rattle.std.proofs.Common.{◌≢◌, ℕ, ◌<◌, Some, slice_index}
use Rattle.std.specs.Prelude.{slice_get}
use Rattle.reference_graph.specs.declared.depth_first.Mark.TheVariants.{Open}
use Rattle.reference_graph.proofs.depth_first.meets_open.Given as goal

abbrev pub invariant-loop-target : goal.invariant-loop-target
invariant-loop-target l = (k : ℕ) → k < l.target-index → slice_get l.marks (slice_index l.row k) ≢ Some Open
