-- Enumerations by where they are listed, and the places of values and fields by their names.
-- Source: IEC 61131-3, identifiers: letter case does not tell names apart.
use Rattle.std.specs.Prelude.{ℕ, Bool, false, ◌||◌, bytes_eq, List, [], ◌∷◌, slice_get, Option}
use Rattle.std.specs.Prelude.{Some, None}
use Rattle.std.specs.List.{list_any, position_from}
use Rattle.std.specs.Ordering.{is_eq}
use Rattle.iec_tables.specs.Words.{raised_all}
use Rattle.st_tree.specs.declared.node.Site.{Site}
use Rattle.scope_names.specs.Scopes.{site_cmp}
use Rattle.project_declarations.specs.Declarations.{Declaration}
use Rattle.type_parts.specs.Parts.{Enumeration, fields_of}

-- ---- enumerations by site

abbrev pub is_listed_at : Site → Enumeration → Bool
is_listed_at site e = is_eq (site_cmp e.site site)

-- the number of the first enumeration that is listed at a site
abbrev pub number_of_site : List Enumeration → Site → Option ℕ
number_of_site enumerations site = position_from (is_listed_at site) 0 enumerations

-- ---- names in a list

abbrev pub is_name : List ℕ → List ℕ → Bool
is_name name x = bytes_eq (raised_all x) (raised_all name)

-- the place of the first of the names that is this one
abbrev pub place_in : List (List ℕ) → List ℕ → Option ℕ
place_in names name = position_from (is_name name) 0 names

-- one of the names stands again behind its place
unfoldable pub has_twice : List (List ℕ) → Bool
has_twice [] = false
has_twice (x ∷ xs) = list_any (is_name x) xs || has_twice xs

-- ---- values

abbrev pub values_of : Option Enumeration → List (List ℕ)
values_of None = []
values_of (Some e) = e.values

-- the place of a value in the enumeration of a number
abbrev pub place_of_value : List Enumeration → ℕ → List ℕ → Option ℕ
place_of_value enumerations e name = place_in (values_of (slice_get enumerations e)) name

abbrev pub has_value_twice : List Enumeration → ℕ → Bool
has_value_twice enumerations e = has_twice (values_of (slice_get enumerations e))

-- ---- fields

abbrev pub fields_there : Option Declaration → List (List ℕ)
fields_there None = []
fields_there (Some d) = fields_of d

-- the place of a field in the structure that the declaration of a number declares
abbrev pub place_of_field : List Declaration → ℕ → List ℕ → Option ℕ
place_of_field decls n name = place_in (fields_there (slice_get decls n)) name

abbrev pub has_field_twice_at : List Declaration → ℕ → Bool
has_field_twice_at decls n = has_twice (fields_there (slice_get decls n))
