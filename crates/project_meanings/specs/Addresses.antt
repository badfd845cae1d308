-- What an address stands for. Source: IEC 61131-3, directly represented variables, as this profile
-- narrows them: an address is the variable that is declared there, else one of its size; functions name
-- none.
use Rattle.std.specs.Prelude.{ℕ, if◌then◌else◌, List, Option, Some, None}
use Rattle.st_tree.specs.declared.node.Site.{Site}
use Rattle.st_lexer.specs.Values.{elem_of}
use Rattle.st_lexer.specs.steps.Readings.{AddressParts, read_address}
use Rattle.project_declarations.specs.declared.scopes.TheConstants as scope
use Rattle.expression_types.specs.declared.meaning.Seen.{Seen}
use Rattle.expression_types.specs.declared.meaning.Seen.TheVariants as seen
use Rattle.expression_types.specs.declared.meaning.ValueType.TheVariants as value
use Rattle.declaration_order.specs.Leads.{variable_site}
use Rattle.declared_names.specs.Project.{Known, finds, number_there, in_function}
use Rattle.declared_names.specs.Seen.{given_there, varying}
use Rattle.project_meanings.specs.Whole.{Whole}

-- a variable of an address's size
abbrev pub by_size : Option AddressParts → Seen
by_size None = seen.Faulty
by_size (Some parts) = seen.Variable (value.Elem (elem_of parts.1))

-- the variable that is declared at a site
abbrev pub declared_at : Known → Site → Seen
declared_at k site = varying (given_there k (number_there k.project (Some site)))

abbrev pub located : Known → List ℕ → Option Site → Seen
located k address None = by_size (read_address address)
located k address (Some site) = declared_at k site

abbrev pub address_there : Whole → List ℕ → Seen
address_there w address =
    if in_function w.known.project w.here.owner then seen.Foreign
    else located w.known address (variable_site (finds w.known.project scope.ADDRESSES address))
