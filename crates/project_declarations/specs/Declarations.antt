-- The units and the declarations of files. Source: the textual grammar of IEC 61131-3, as this profile
-- narrows it. A list of declarations stands for a collection; units stand in file and text order.
use Rattle.std.specs.Prelude.{ℕ, suc, List, [], ◌∷◌, ◌++◌, map, flat_map, Option, Some, None}
use Rattle.st_tree.specs.declared.declaration.TypeName.{TypeName}
use Rattle.st_tree.specs.declared.declaration.Keep.{Keep}
use Rattle.st_tree.specs.declared.declaration.Decl.{Decl}
use Rattle.st_tree.specs.declared.declaration.Section.{Section}
use Rattle.st_tree.specs.declared.file.Unit.{Unit}
use Rattle.st_tree.specs.declared.file.UnitKind.{UnitKind}
use Rattle.st_tree.specs.declared.file.Types.{Types}
use Rattle.st_tree.specs.declared.file.TypeDecl.{TypeDecl}
use Rattle.st_tree.specs.declared.file.Globals.{Globals}
use Rattle.st_tree.specs.declared.file.Config.{Config}
use Rattle.st_tree.specs.declared.file.Resource.{Resource}
use Rattle.st_tree.specs.declared.file.SourceTree.{SourceTree}
use Rattle.project_declarations.specs.Named.{each_from, unit_no}
use Rattle.project_declarations.specs.Named as names
use Rattle.project_declarations.specs.declared.rows.Local.{Local}
use Rattle.project_declarations.specs.declared.rows.Owner.{Owner}
use Rattle.project_declarations.specs.declared.rows.Owner.TheVariants as owner

-- A declaration as it is written.
pub data Written : Type 0 where
  written_type : TypeDecl → Written
  written_variables : Decl → Written
  written_result : TypeName → Written

-- A declaration, the place of its file, and what it belongs to.
pub record Declaration : Type 0 where
  pub file : ℕ
  pub owner : Owner
  pub source : Written

-- A unit and the place of its file.
pub record Placed : Type 0 where
  pub file : ℕ
  pub unit : Unit

abbrev pub variables : ℕ → Owner → Decl → Declaration
variables file o x = record { file = file; owner = o; source = written_variables x }

abbrev pub global_owner : Globals → Owner
global_owner x = owner.Global x.keep

abbrev pub globals_decls : ℕ → Globals → List Declaration
globals_decls file x = map (variables file (global_owner x)) x.decls

abbrev pub local_of : ℕ → Section → Local
local_of unit x = record { unit = unit_no unit; kind = x.kind; keep = x.keep }

abbrev pub local_owner : ℕ → Section → Owner
local_owner unit x = owner.Local (local_of unit x)

abbrev pub section_decls : ℕ → ℕ → Section → List Declaration
section_decls file unit x = map (variables file (local_owner unit x)) x.decls

abbrev pub result_decls : ℕ → ℕ → UnitKind → List Declaration
result_decls file unit (UnitKind.Function name) =
    record { file = file; owner = owner.Result (unit_no unit); source = written_result name } ∷ []
result_decls file unit UnitKind.Block = []
result_decls file unit UnitKind.Program = []

abbrev pub unit_decls : ℕ → ℕ → Unit → List Declaration
unit_decls file unit x =
    result_decls file unit x.kind ++ flat_map (section_decls file unit) x.sections

abbrev pub type_decl : ℕ → TypeDecl → Declaration
type_decl file x = record { file = file; owner = owner.«Type»; source = written_type x }

abbrev pub types_decls : ℕ → Types → List Declaration
types_decls file x = map (type_decl file) x.decls

abbrev pub resource_decls : ℕ → Resource → List Declaration
resource_decls file x = flat_map (globals_decls file) x.globals

abbrev pub config_decls : ℕ → Config → List Declaration
config_decls file x =
    flat_map (globals_decls file) x.globals ++ flat_map (resource_decls file) x.resources

-- ---- files

-- the lists one behind the other
abbrev pub joined : {A : Type 0} → List (List A) → List A
joined = flat_map (λ xs. xs)

abbrev pub placed : ℕ → Unit → Placed
placed file x = record { file = file; unit = x }

-- the units of files, from the file of that place on, in file and text order
abbrev pub units_from : ℕ → List SourceTree → List Placed
units_from file trees = joined (each_from (λ k tree. map (placed k) tree.units) file trees)

abbrev pub units_of : List SourceTree → List Placed
units_of = units_from 0

abbrev pub decls_of_units : ℕ → List Placed → List Declaration
decls_of_units number units = joined (each_from (λ k x. unit_decls x.file k x.unit) number units)

abbrev pub names_of_units : ℕ → List Placed → List names.Named
names_of_units number units = joined (each_from (λ k x. names.unit_names x.file k x.unit) number units)

-- what a file declares outside its units
abbrev pub outer_decls : ℕ → SourceTree → List Declaration
outer_decls file x =
    flat_map (types_decls file) x.types
    ++ (flat_map (globals_decls file) x.globals ++ flat_map (config_decls file) x.config)

abbrev pub outer_names : ℕ → SourceTree → List names.Named
outer_names file x =
    flat_map (names.types_names file) x.types
    ++ (flat_map (names.globals_names file) x.globals ++ flat_map (names.config_names file) x.config)

-- the same of files, from the file of that place on
abbrev pub outer_decls_from : ℕ → List SourceTree → List Declaration
outer_decls_from file trees = joined (each_from outer_decls file trees)

abbrev pub outer_names_from : ℕ → List SourceTree → List names.Named
outer_names_from file trees = joined (each_from outer_names file trees)

-- what files declare, each unit under its number
abbrev pub decls_of : List SourceTree → List Declaration
decls_of trees = decls_of_units 0 (units_of trees) ++ outer_decls_from 0 trees

abbrev pub names_of : List SourceTree → List names.Named
names_of trees = names_of_units 0 (units_of trees) ++ outer_names_from 0 trees
