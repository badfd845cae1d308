use Rattle.std.proofs.Common.{◌≡◌, ◌++◌, map, drop}
use Rattle.project_declarations.specs.Named.{each_from, unit_no}
use Rattle.project_declarations.specs.Declarations.{Placed}
use Rattle.project_declarations.specs.Rows.{bare_unit}
use Rattle.declared_types.specs.BareForms.{bare_forms}
use Rattle.declared_types.specs.BareForms as form
use Rattle.declared_names.specs.Shapes as spec
use Rattle.declared_names.proofs.forms.add_units.Given as goal

abbrev pub invariant-loop-number : goal.invariant-loop-number
invariant-loop-number l =
    bare_forms l.fn.forms.items ++ spec.unit_forms (map bare_unit l.units)
    ≡ bare_forms l.forms.items
    ++ each_from (λ k (x : Placed). form.Block (unit_no k)) l.number (map bare_unit (drop l.number l.units))
