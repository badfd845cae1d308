-- What the code knows where an expression stands, as the definitions see it.
use Rattle.std.specs.Prelude.{List, map}
use Rattle.std.specs.Option.{option_map}
use Rattle.declared_types.specs.BareForms.{bare_forms}
use Rattle.declared_names.specs.Tables.{known_at, here_of}
use Rattle.project_meanings.specs.Signatures as signatures
use Rattle.project_meanings.specs.Whole as spec
use Rattle.project_meanings.specs.Rows.{bare_signature}
use Rattle.project_meanings.specs.declared.table.Signatures.{Signatures}
use Rattle.project_meanings.specs.declared.whole.Body.{Body}
use Rattle.project_meanings.specs.declared.whole.Whole.{Whole}

abbrev pub signatures_in : Signatures → List signatures.Signature
signatures_in s = map bare_signature s.rows.items

abbrev pub body_in : Body → spec.Body
body_in b = record { unit = b.unit; step = b.step }

abbrev pub whole_in : Whole → spec.Whole
whole_in w =
    record {
      known = known_at w.at;
      here = here_of w.at;
      forms = bare_forms w.forms.now;
      body = option_map body_in w.body;
    }
