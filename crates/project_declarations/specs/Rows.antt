-- The rows of the code as what they say, without where the trees lie.
use Rattle.std.specs.Prelude.{◌≡◌, ℕ, List, [], ◌++◌, map, length}
use Rattle.scope_names.specs.declared.names.NameRow.{NameRow}
use Rattle.project_declarations.specs.Named.{Named}
use Rattle.project_declarations.specs.Declarations.{Written, written_type, written_variables}
use Rattle.project_declarations.specs.Declarations.{written_result, Declaration, Placed}
use Rattle.project_declarations.specs.Declarations.{decls_of_units, names_of_units}
use Rattle.project_declarations.specs.declared.rows.What.{What}
use Rattle.project_declarations.specs.declared.rows.Owner.{Owner}
use Rattle.project_declarations.specs.declared.rows.Source.{Source}
use Rattle.project_declarations.specs.declared.rows.UnitRow.{UnitRow}
use Rattle.project_declarations.specs.declared.rows.DeclRow.{DeclRow}
use Rattle.project_declarations.specs.declared.collected.Collected.{Collected}

abbrev pub bare_source : Source → Written
bare_source (Source.«Type» x) = written_type x.now
bare_source (Source.Variables x) = written_variables x.now
bare_source (Source.Result x) = written_result x.now

abbrev pub declaration : ℕ → Owner → Source → Declaration
declaration file owner source = record { file = file; owner = owner; source = bare_source source }

abbrev pub bare_decl : DeclRow → Declaration
bare_decl row = declaration row.file row.owner row.source

abbrev pub bare_unit : UnitRow → Placed
bare_unit row = record { file = row.file; unit = row.unit.now }

abbrev pub bare_name : NameRow What → Named
bare_name row =
    record { scope = row.scope; name = row.name.now; site = row.site; node = row.node; what = row.what }

abbrev pub units_in : Collected → List Placed
units_in c = map bare_unit c.units.items

abbrev pub decls_in : Collected → List Declaration
decls_in c = map bare_decl c.decls.items

abbrev pub names_in : Collected → List Named
names_in c = map bare_name c.names.items

-- After it there are these units, declarations and names more.
pub record Adds
    (old new : Collected) (units : List Placed) (decls : List Declaration) (names : List Named)
    : Type 0 where
  pub units_are : units_in new ≡ units_in old ++ units
  pub decls_are : decls_in new ≡ decls_in old ++ decls
  pub names_are : names_in new ≡ names_in old ++ names

-- After it there are these units more, under the numbers behind those before, and what they declare.
abbrev pub AddsUnits : Collected → Collected → List Placed → Type 0
AddsUnits old new units =
    let before = length old.units.items in
    Adds old new units (decls_of_units before units) (names_of_units before units)

pub record IsEmpty (c : Collected) : Type 0 where
  pub units_are : units_in c ≡ []
  pub decls_are : decls_in c ≡ []
  pub names_are : names_in c ≡ []
