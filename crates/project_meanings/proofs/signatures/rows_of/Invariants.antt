use Rattle.std.proofs.Common.{◌≡◌, ◌++◌, map, drop}
use Rattle.project_declarations.specs.Rows.{bare_unit}
use Rattle.declared_names.specs.Tables.{project_in}
use Rattle.project_meanings.specs.Signatures as spec
use Rattle.project_meanings.specs.Rows.{bare_signature}
use Rattle.project_meanings.proofs.signatures.rows_of.Given as goal

abbrev pub invariant-loop-number : goal.invariant-loop-number
invariant-loop-number l =
    spec.signatures_from (project_in l.project) 0 (map bare_unit l.units)
    ≡ map bare_signature l.rows.items
    ++ spec.signatures_from (project_in l.project) l.number (map bare_unit (drop l.number l.units))
