use Rattle.initial_values.specs.Initials as written_by
use Rattle.initial_values.proofs.Made.{faults_step}
use Rattle.initial_values.proofs.untyped.+init.Goals as goal

pub alone_items-loop-item-preserved : goal.alone_items-loop-item-preserved
alone_items-loop-item-preserved g t c =
    faults_step (written_by.alone_item (g.O.Outside.around c.args.outside.now)) _ _ _ _ _ _
    c.loop-item-test.true c.item-item.is c.loop-item.invariant c.alone_item.ensures

pub alone_fields-loop-field-preserved : goal.alone_fields-loop-field-preserved
alone_fields-loop-field-preserved g t c =
    faults_step (written_by.alone_field (g.O.Outside.around c.args.outside.now)) _ _ _ _ _ _
    c.loop-field-test.true c.field-item.is c.loop-field.invariant c.alone_field.ensures
