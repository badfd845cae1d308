use Rattle.std.proofs.Common.{◌≡◌, take, map}
use Rattle.declared_types.specs.BareForms.{bare_field}
use Rattle.initial_values.specs.Initials as written_by
use Rattle.initial_values.proofs.fields.own_values.Given as goal

abbrev pub invariant-loop-field : goal.invariant-loop-field
invariant-loop-field l =
    l.values.items ≡ map written_by.own_value (map bare_field (take l.field-index l.fields))
