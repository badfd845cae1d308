use Rattle.std.proofs.Common.{◌≡◌, ◌++◌, take, map}
use Rattle.declared_types.specs.BareForms.{bare_field}
use Rattle.declaration_rules.specs.Declarations as gives
use Rattle.declaration_rules.proofs.structures.add_fields.Given as goal

abbrev pub invariant-loop-name : goal.invariant-loop-name
invariant-loop-name l =
    map bare_field l.fields.items
    ≡ map bare_field l.fn.fields.items ++ gives.fields_of l.given (take l.name-index l.names)
