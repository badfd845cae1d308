-- What the code knows, as the definitions see it.
use Rattle.declared_types.specs.BareForms.{bare_forms}
use Rattle.declared_project.specs.Computing as spec
use Rattle.declared_project.specs.declared.computing.Computed.{Computed}

abbrev pub computed_in : Computed → spec.Computed
computed_in c =
    record { given = c.given.items; forms = bare_forms c.forms.items; rows = c.rows.items }
