use Rattle.std.proofs.Common.{◌≡◌, drop, map}
use Rattle.declared_types.specs.BareForms.{bare_field}
use Rattle.initial_values.specs.Initials as written_by
use Rattle.initial_values.proofs.fields.field_named.Given as goal

abbrev pub invariant-loop-field : goal.invariant-loop-field
invariant-loop-field l =
    (written_by.field_from 0 (map bare_field l.fields) l.name
    ≡ written_by.field_from l.place (map bare_field (drop l.field-index l.fields)) l.name)
    × (l.place ≡ l.field-index)
