use Rattle.unit_rules.specs.Twice.{row_faults}
use Rattle.unit_rules.proofs.Noting.{noted_in}
use Rattle.unit_rules.proofs.names.note_names.Goals as goal

pub loop-at-preserved : goal.loop-at-preserved
loop-at-preserved c =
    noted_in (row_faults c.args.names.now) c.args.names.now c.rows-row-items.result.now c.loop-at.at
    _ _ _ _ c.rows-row-items.ensures.all c.loop-at-test.true
    c.loop-at.invariant c.note_name.ensures
