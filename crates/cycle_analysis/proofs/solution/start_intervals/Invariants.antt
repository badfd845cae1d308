use Rattle.std.proofs.Common.{◌≡◌, take}
use Rattle.cycle_analysis.specs.Table.{points}
use Rattle.cycle_analysis.proofs.solution.start_intervals.Given as goal

abbrev pub invariant-loop-cell : goal.invariant-loop-cell
invariant-loop-cell l = l.intervals.items ≡ points (take l.cell-index l.cells)
