-- The rows of signatures as what they say, without where names lie.
use Rattle.std.specs.Prelude.{List, map}
use Rattle.project_meanings.specs.Signatures as spec
use Rattle.project_meanings.specs.declared.rows.InputRow.{InputRow}
use Rattle.project_meanings.specs.declared.rows.Signature.{Signature}

abbrev pub bare_input : InputRow → spec.DeclaredInput
bare_input row = record { name = row.name.now; number = row.number }

abbrev pub bare_inputs : List InputRow → List spec.DeclaredInput
bare_inputs rows = map bare_input rows

abbrev pub bare_signature : Signature → spec.Signature
bare_signature row =
    record { scope = row.scope; inputs = bare_inputs row.inputs; result = row.result }
