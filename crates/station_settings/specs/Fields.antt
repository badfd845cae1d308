-- The fields of the settings, and what is told of a text that is refused. Source: this profile. The
-- code matches on texts.
use Rattle.std.specs.Prelude.{ℕ, Bool, List, [], ◌∷◌, codes, bytes_eq}
use Rattle.std.specs.List.{list_any}
use Rattle.station_settings.specs.declared.field.Field.{Field}
use Rattle.station_settings.specs.declared.field.Field.TheVariants.{Toml, NameMin, NameMax, MaxNesting, MaxStatements, GlobalPrefix, Disabled, Caller, Unknown}

-- the keys of the fields, in their order
abbrev pub name_min : List ℕ
name_min = codes "name_min"

abbrev pub name_max : List ℕ
name_max = codes "name_max"

abbrev pub max_nesting : List ℕ
max_nesting = codes "max_nesting"

abbrev pub max_statements : List ℕ
max_statements = codes "max_statements"

abbrev pub global_prefix : List ℕ
global_prefix = codes "global_prefix"

abbrev pub disabled : List ℕ
disabled = codes "disabled"

abbrev pub caller : List ℕ
caller = codes "caller"

abbrev pub fields : List (List ℕ)
fields = name_min ∷ name_max ∷ max_nesting ∷ max_statements ∷ global_prefix ∷ disabled ∷ caller ∷ []

abbrev pub is_field : List ℕ → Bool
is_field key = list_any (bytes_eq key) fields

-- what a refusal is told by: `toml` where the text is no TOML, else the key of the bad field
abbrev pub name_of : Field → List ℕ
name_of Toml = codes "toml"
name_of NameMin = name_min
name_of NameMax = name_max
name_of MaxNesting = max_nesting
name_of MaxStatements = max_statements
name_of GlobalPrefix = global_prefix
name_of Disabled = disabled
name_of Caller = caller
name_of (Unknown key) = key
