use Rattle.std.proofs.Common.{◌≡◌, ◌++◌, map, take}
use Rattle.declared_types.specs.BareForms.{bare_forms}
use Rattle.type_parts.specs.Tables.{enumerations_in}
use Rattle.declared_names.specs.Shapes as spec
use Rattle.declared_names.proofs.forms.add_enumerations.Given as goal

abbrev pub invariant-loop-row : goal.invariant-loop-row
invariant-loop-row l =
    bare_forms l.forms.items
    ≡ bare_forms l.fn.forms.items ++ map spec.listed_form (enumerations_in (take l.row-index l.rows))
