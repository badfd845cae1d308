use Rattle.std.proofs.Common.{◌≡◌, ◌≤◌, drop, map, max}
use Rattle.declared_types.specs.BareForms.{bare_field}
use Rattle.declaration_rules.specs.Declarations as gives
use Rattle.declaration_rules.proofs.structures.size_of.Given as goal

abbrev pub invariant-loop-field : goal.invariant-loop-field
invariant-loop-field l =
    (gives.size_of (map bare_field l.fields)
    ≡ max l.size (gives.size_of (map bare_field (drop l.field-index l.fields))))
    × (1 ≤ l.size)
