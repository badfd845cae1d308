use Rattle.std.proofs.Common.{arith}
use Rattle.unit_rules.specs.Running.{outer, line_faults}
use Rattle.unit_rules.proofs.Noting.{noted_next}
use Rattle.unit_rules.proofs.lines.note_lines.Goals as goal

pub loop-line-preserved : goal.loop-line-preserved
loop-line-preserved c =
    noted_next (line_faults (outer c.args.names.now c.args.units.now) c.args.file)
    c.args.lines.now c.loop-line.line-index c.line-item.result _ _ _ (omega arith) c.line-item.is
    c.loop-line.invariant c.note_line.ensures
