use Rattle.cycle_analysis.specs.Pass.{at}
use Rattle.cycle_analysis.specs.Rows.{Mapped}
use Rattle.cycle_analysis.proofs.row.copy_all.Given as goal

abbrev pub invariant-loop-place : goal.invariant-loop-place
invariant-loop-place l = Mapped (at l.others) l.fn.intervals l.intervals l.place
