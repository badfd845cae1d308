use Rattle.cycle_analysis.specs.Rows.{Raising, raised}
use Rattle.cycle_analysis.proofs.row.raise_all.Given as goal

abbrev pub invariant-loop-place : goal.invariant-loop-place
invariant-loop-place l = Raising (raised l.grid l.fn.intervals l.others) l.fn.intervals l.intervals l.place l.grown
