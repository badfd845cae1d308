use Rattle.std.proofs.Common.{◌≡◌, map, drop}
use Rattle.declared_types.specs.BareForms.{bare_field}
use Rattle.project_meanings.specs.Parts as spec
use Rattle.project_meanings.proofs.parts.structure_field.Given as goal

abbrev pub invariant-loop-field : goal.invariant-loop-field
invariant-loop-field l =
    spec.structure_field (map bare_field l.fields) l.name
    ≡ spec.structure_field (map bare_field (drop l.field-index l.fields)) l.name
