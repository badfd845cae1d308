-- What the tables of the code stand for: enumerations where they are listed, and the names of
-- several lists in one table, each name under the number of its list and at its place in it.
use Rattle.std.specs.Prelude.{◌≡◌, ℕ, ◌≤◌, ◌^◌, List, [], ◌++◌, length, map, get_or}
use Rattle.std.specs.List.Sorted.{IsPermutation}
use Rattle.st_tree.specs.declared.node.Site.{Site}
use Rattle.scope_names.specs.declared.names.NameRow.{NameRow}
use Rattle.project_declarations.specs.Named.{each_from}
use Rattle.project_declarations.specs.Declarations.{Declaration, joined}
use Rattle.type_parts.specs.Parts.{Enumeration, names_of, fields_of}
use Rattle.type_parts.specs.declared.listed.Listed.{Listed}

-- ---- enumerations

abbrev pub bare_listed : Listed → Enumeration
bare_listed row = record { site = row.site; values = names_of row.values.now }

abbrev pub enumerations_in : List Listed → List Enumeration
enumerations_in rows = map bare_listed rows

-- the names of the values of each
abbrev pub values_lists : List Enumeration → List (List (List ℕ))
values_lists enumerations = map (λ (e : Enumeration). e.values) enumerations

-- the names of the fields of the structure that each declares
abbrev pub fields_lists : List Declaration → List (List (List ℕ))
fields_lists decls = map fields_of decls

-- after it there are these enumerations more
abbrev pub AddsListed : List Listed → List Listed → List Enumeration → Type 0
AddsListed old new more = enumerations_in new ≡ enumerations_in old ++ more

-- ---- names of lists

-- a name, the number of its list, and its place in it; names stand in the order of their places
pub record Entry : Type 0 where
  pub list : ℕ
  pub place : ℕ
  pub name : List ℕ
  pub site : Site

abbrev pub site_at : ℕ → Site
site_at place = record { file = 0; node = record { 0 = place } }

abbrev pub entry : ℕ → ℕ → List ℕ → Entry
entry list place name = record { list = list; place = place; name = name; site = site_at place }

abbrev pub entry_of : NameRow ℕ → Entry
entry_of row = record { list = row.scope; place = row.what; name = row.name.now; site = row.site }

abbrev pub entries_in : List (NameRow ℕ) → List Entry
entries_in rows = map entry_of rows

-- the names of the list of that number, from a place on
abbrev pub list_entries : ℕ → ℕ → List (List ℕ) → List Entry
list_entries list = each_from (entry list)

abbrev pub whole_list : ℕ → List (List ℕ) → List Entry
whole_list list = list_entries list 0

-- those of lists, of which the first one has that number
abbrev pub entries_from : ℕ → List (List (List ℕ)) → List Entry
entries_from number lists = joined (each_from whole_list number lists)

-- after it there are these names more
abbrev pub AddsNames : List (NameRow ℕ) → List (NameRow ℕ) → List Entry → Type 0
AddsNames old new more = entries_in new ≡ entries_in old ++ more

-- the list of a number, with nothing in it where there is none
abbrev pub list_at : List (List (List ℕ)) → ℕ → List (List ℕ)
list_at lists number = get_or lists number []

-- the table has each name of each list once
pub record IsTable (table : List (NameRow ℕ)) (lists : List (List (List ℕ))) : Type 0 where
  pub few : length lists ≤ 2 ^ 32
  pub rows : List (NameRow ℕ)
  pub same : IsPermutation rows table
  pub are : entries_in rows ≡ entries_from 0 lists
