-- Steps on the way: inputs by name before what they take is known, and names that are found.
use Rattle.std.specs.Prelude.{ℕ, suc, bytes_eq, Bool, true, false, if◌then◌else◌, List, [], ◌∷◌, Option, Some, None}
use Rattle.std.specs.Option.{option_map}
use Rattle.iec_tables.specs.Words.{raised_all}
use Rattle.project_declarations.specs.declared.rows.What.{What}
use Rattle.project_meanings.specs.Signatures.{DeclaredInput}

-- the place of the first input of a name
abbrev pub place_named : List DeclaredInput → List ℕ → Option ℕ
place_named [] name = None
place_named (x ∷ xs) name =
    if bytes_eq (raised_all x.name) (raised_all name) then Some 0
    else option_map suc (place_named xs name)

abbrev pub is_found : Option What → Bool
is_found None = false
is_found (Some what) = true
