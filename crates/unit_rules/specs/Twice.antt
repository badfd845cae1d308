-- Names that a scope may not declare: one that it declares already, or one of the standard.
-- Source: IEC 61131-3, scopes of identifiers, as this profile narrows them: units, types and the
-- names of the standard share one scope, in which the standard's are declared before all others.
--
-- The names of a project stand in one table, in the order of scope, name with its letters raised,
-- file and node. So before a row stand all rows that declare its name in its scope and come before
-- it by file and node.
use Rattle.std.specs.Prelude.{ℕ, ◌-◌, Bool, false, ◌&&◌, ◌||◌, if◌then◌else◌, nat_eq, List, []}
use Rattle.std.specs.Prelude.{◌∷◌, take, slice_get, Option, Some, None}
use Rattle.std.specs.List.{list_any}
use Rattle.st_tree.specs.declared.node.Site.{Site}
use Rattle.scope_names.specs.declared.names.NameRow.{NameRow}
use Rattle.scope_names.specs.Scopes.{declares}
use Rattle.standard_types.specs.Names.{is_standard_name}
use Rattle.link_faults.specs.declared.code.LinkCode.TheVariants as code
use Rattle.link_faults.specs.declared.fault.LinkFault.{LinkFault}
use Rattle.project_declarations.specs.Named.{each_from}
use Rattle.project_declarations.specs.Declarations.{joined}
use Rattle.project_declarations.specs.declared.scopes.TheConstants as scope
use Rattle.project_declarations.specs.declared.rows.What.{What}
use Rattle.project_declarations.specs.declared.rows.What.TheVariants as what
use Rattle.unit_rules.specs.Noted.{fault_where}

abbrev pub Row : Type 0
Row = NameRow What

-- one of the rows declares the row's name in its scope
abbrev pub is_declared : List Row → Row → Bool
is_declared rows row = list_any (declares row.scope row.name.now) rows

-- ---- values of enumerations

-- the enumeration of a value, by the site of the specification that lists its values
abbrev pub enumeration_of : What → Option Site
enumeration_of (what.Value site place) = Some site
enumeration_of (what.Unit unit) = None
enumeration_of (what.«Type» site) = None
enumeration_of (what.Variable site) = None
enumeration_of (what.Task site) = None
enumeration_of (what.Line site) = None
enumeration_of (what.Step site) = None
enumeration_of (what.Action site) = None

abbrev pub same_site : Site → Site → Bool
same_site a b = nat_eq a.file b.file && nat_eq a.node.0 b.node.0

abbrev pub same_enumeration : Option Site → Option Site → Bool
same_enumeration (Some a) (Some b) = same_site a b
same_enumeration (Some a) None = false
same_enumeration None (Some b) = false
same_enumeration None None = false

-- two values of one name in one enumeration
abbrev pub same_value : Row → Row → Bool
same_value other row =
    declares row.scope row.name.now other
    && same_enumeration (enumeration_of other.what) (enumeration_of row.what)

-- the row directly before a place
abbrev pub row_before : List Row → ℕ → Option Row
row_before rows at = if nat_eq at 0 then None else slice_get rows (at - 1)

abbrev pub is_same_value : Option Row → Row → Bool
is_same_value None row = false
is_same_value (Some other) row = same_value other row

-- ---- all names

-- All enumerations share the scope of their values, and one may have the name of a value of
-- another. An enumeration is one piece of the text, and the rows of one name stand in the order of
-- the text: so the values of one name in one enumeration stand side by side, and the row directly
-- before a value tells whether its enumeration has the name already.
abbrev pub is_further : List Row → ℕ → Row → Bool
is_further rows at row =
    if nat_eq row.scope scope.VALUES then is_same_value (row_before rows at) row
    else is_declared (take at rows) row

-- a unit or a type under a name of the standard
abbrev pub is_taken : Row → Bool
is_taken row = nat_eq row.scope scope.OUTERMOST && is_standard_name row.name.now

abbrev pub declared_twice : Row → LinkFault
declared_twice row = record { site = row.site; code = code.Twice }

abbrev pub row_faults : List Row → ℕ → Row → List LinkFault
row_faults rows at row = fault_where (is_further rows at row || is_taken row) (declared_twice row)

-- of all rows of the table
abbrev pub names_faults : List Row → List LinkFault
names_faults rows = joined (each_from (row_faults rows) 0 rows)
