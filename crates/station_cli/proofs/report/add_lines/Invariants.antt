-- The lines so far are those of the cells so far.
use Rattle.std.proofs.Common.{◌≡◌, ◌++◌, length, take}
use Rattle.station_cli.specs.steps.Lines.{lines_of}
use Rattle.station_cli.proofs.report.add_lines.Given as goal

abbrev pub invariant-loop-cell : goal.invariant-loop-cell
invariant-loop-cell l = l.lines ≡ l.fn.lines ++ lines_of (take (length l.yielded) l.cells) (take (length l.yielded) l.ranges)
