use Rattle.std.proofs.Common.{map, drop, length}
use Rattle.declared_types.specs.BareForms.{bare_field}
use Rattle.initial_values.specs.Initials as written_by
use Rattle.initial_values.specs.steps.Telling.{ground}
use Rattle.initial_values.proofs.Made.{LeftRuns, LeftMade}
use Rattle.initial_values.proofs.initials.+init.Given as goal

abbrev pub invariant-elements-loop-item : goal.invariant-elements-loop-item
invariant-elements-loop-item g l =
    let f = written_by.item_value (ground (g.C.Outside.around l.outside) (g.C.Counts.repeats l.outside) l.forms) in
    LeftRuns l.array.element (map f l.items) (map f (drop l.item-index l.items)) l.array.count
    l.fn.rows.items l.rows.items l.fn.faults l.faults l.all l.runs.items l.left

abbrev pub invariant-structure-loop-field : goal.invariant-structure-loop-field
invariant-structure-loop-field g l =
    let o = g.C.Outside.around l.outside in
    let f = written_by.field_value (ground o (g.C.Counts.repeats l.outside) l.forms) in
    LeftMade (written_by.parts_made o (map bare_field l.fields) (length l.fn.rows.items) (written_by.none_taken (map bare_field l.fields))
    (map f l.list))
    (written_by.parts_made o (map bare_field l.fields) (length l.rows.items) l.taken.items (map f (drop l.field-index l.list)))
    l.fn.rows.items l.rows.items l.fn.faults l.faults l.all l.parts.items
