use Rattle.std.proofs.Common.{ℕ, ◌<◌}
use Rattle.iec_tables.specs.Words.{raised_all}
use Rattle.standard_names.specs.Joints.{JoinsAt}
use Rattle.standard_names.proofs.joint.cut.Given as goal

abbrev pub invariant-loop-at : goal.invariant-loop-at
invariant-loop-at l = (k : ℕ) → k < l.at → ¬ (JoinsAt (raised_all l.name) k)
