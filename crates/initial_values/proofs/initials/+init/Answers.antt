use Rattle.std.proofs.Common.{◌∙◌, ap, sym, map}
use Rattle.declared_types.specs.BareForms.{bare_field}
use Rattle.initial_values.specs.Initials as written_by
use Rattle.initial_values.specs.steps.Telling.{ground}
use Rattle.initial_values.proofs.Made.{runs_step, runs_end, parts_step, parts_end, field_name}
use Rattle.initial_values.proofs.initials.+init.Goals as goal

pub elements-loop-item-preserved : goal.elements-loop-item-preserved
elements-loop-item-preserved g t c =
    runs_step (written_by.item_value (ground (g.C.Outside.around c.args.outside.now)
    (g.C.Counts.repeats c.args.outside.now) c.args.forms.now)) _ _ _ _ _ _ _ _ _ _ _ _ _ _ _ _ _ _ _
    c.loop-item-test.true c.item-item.is c.loop-item.invariant c.in_ok-value.ensures
    (c.item_count-count.ensures c.args.forms.now) c.in_ok-all.ensures.all c.in_ok-all.ensures.runs
    c.room_left-left.ensures

pub elements-returns : goal.elements-returns
elements-returns g t c =
    runs_end (g.C.Outside.around c.args.outside.now) c.args.node
    (written_by.item_value (ground (g.C.Outside.around c.args.outside.now)
    (g.C.Counts.repeats c.args.outside.now) c.args.forms.now)) _ _ c.args.array.now _ _ _ _ _ _ _ _ _ _ _
    c.loop-item-test.false c.loop-item.invariant c.in_ok-row.ensures c.add_row.ensures.rows
    c.add_row.ensures.value

pub structure-loop-field-preserved : goal.structure-loop-field-preserved
structure-loop-field-preserved g t c =
    parts_step (g.C.Outside.around c.args.outside.now) (map bare_field c.args.fields.now)
    (written_by.field_value (ground (g.C.Outside.around c.args.outside.now)
    (g.C.Counts.repeats c.args.outside.now) c.args.forms.now)) _ _ _ _ _ _ _ _ _ _ _ _ _ _ _ _ _ _
    c.deref.ensures.value c.loop-field-test.true c.field-item.is c.loop-field.invariant
    (c.field_named-at.ensures ∙ ap (written_by.field_named (map bare_field c.args.fields.now))
    (c.bytes.ensures ∙ sym (ap (λ i. i.name) (field_name _ _)))) c.in_ok-part.ensures
    c.in_ok-all.ensures.all c.in_ok-all.ensures.parts c.take.ensures

pub structure-returns : goal.structure-returns
structure-returns g t c =
    parts_end (g.C.Outside.around c.args.outside.now) (map bare_field c.args.fields.now)
    (written_by.field_value (ground (g.C.Outside.around c.args.outside.now)
    (g.C.Counts.repeats c.args.outside.now) c.args.forms.now)) _ _ _ _ _ _ _ _ _ _ _ _ _
    c.loop-field-test.false c.loop-field.invariant c.deref-2.ensures.value c.in_ok-row.ensures c.add_row.ensures.rows
    c.add_row.ensures.value
