use Rattle.std.proofs.Common.{◌≡◌, drop, map}
use Rattle.link_faults.specs.First.{after}
use Rattle.project_declarations.specs.Declarations.{joined}
use Rattle.initial_values.specs.Initials as written_by
use Rattle.initial_values.proofs.untyped.+init.Given as goal

abbrev pub invariant-alone_items-loop-item : goal.invariant-alone_items-loop-item
invariant-alone_items-loop-item g l =
    let f = written_by.alone_item (g.O.Outside.around l.outside) in
    after l.fn.faults (joined (map f l.items)) ≡ after l.faults (joined (map f (drop l.item-index l.items)))

abbrev pub invariant-alone_fields-loop-field : goal.invariant-alone_fields-loop-field
invariant-alone_fields-loop-field g l =
    let f = written_by.alone_field (g.O.Outside.around l.outside) in
    after l.fn.faults (joined (map f l.fields)) ≡ after l.faults (joined (map f (drop l.field-index l.fields)))
