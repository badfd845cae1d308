use Rattle.std.proofs.Common.{arith}
use Rattle.project_declarations.specs.Rows.{bare_unit}
use Rattle.unit_rules.specs.Forms.{unit_beyond}
use Rattle.unit_rules.proofs.Noting.{noted_row_one}
use Rattle.unit_rules.proofs.units.note_spare.Goals as goal

pub loop-row-preserved : goal.loop-row-preserved
loop-row-preserved c =
    noted_row_one unit_beyond bare_unit
    c.args.units.now c.loop-row.row-index c.row-item.result _ _ _ (omega arith) c.row-item.is
    c.loop-row.invariant c.note_at.ensures
