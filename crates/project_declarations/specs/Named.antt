-- The names that the parts of a file declare, each with its scope, its place and what it stands for.
-- Source: IEC 61131-3, scopes of identifiers, as this profile narrows them. A list of names stands for
-- a collection: the code puts them in an order of its own.
use Rattle.std.specs.Prelude.{ℕ, suc, List, [], ◌∷◌, ◌++◌, map, flat_map, Option, Some, None}
use Rattle.st_tree.specs.declared.node.Node.{Node}
use Rattle.st_tree.specs.declared.node.Site.{Site}
use Rattle.st_tree.specs.declared.expression.Identifier.{Identifier}
use Rattle.st_tree.specs.declared.expression.Address.{Address}
use Rattle.st_tree.specs.declared.declaration.TypeName.{TypeName}
use Rattle.st_tree.specs.declared.declaration.Spec.{Spec, fold-Spec}
use Rattle.st_tree.specs.declared.declaration.Spec.TheOpen.{Spec-F}
use Rattle.st_tree.specs.declared.declaration.Decl.{Decl}
use Rattle.st_tree.specs.declared.declaration.Section.{Section}
use Rattle.st_tree.specs.declared.chart.Step.{Step}
use Rattle.st_tree.specs.declared.chart.Action.{Action}
use Rattle.st_tree.specs.declared.chart.SfcPart.{SfcPart}
use Rattle.st_tree.specs.declared.chart.Sfc.{Sfc}
use Rattle.st_tree.specs.declared.file.Body.{Body}
use Rattle.st_tree.specs.declared.file.Unit.{Unit}
use Rattle.st_tree.specs.declared.file.UnitKind.{UnitKind}
use Rattle.st_tree.specs.declared.file.Types.{Types}
use Rattle.st_tree.specs.declared.file.TypeDecl.{TypeDecl}
use Rattle.st_tree.specs.declared.file.Shape.{Shape}
use Rattle.st_tree.specs.declared.file.Fields.{Fields}
use Rattle.st_tree.specs.declared.file.Globals.{Globals}
use Rattle.st_tree.specs.declared.file.Config.{Config}
use Rattle.st_tree.specs.declared.file.Resource.{Resource}
use Rattle.st_tree.specs.declared.file.Tasks.{Tasks}
use Rattle.st_tree.specs.declared.file.Task.{Task}
use Rattle.st_tree.specs.declared.file.ProgramLine.{ProgramLine}
use Rattle.project_declarations.specs.Scopes as scopes
use Rattle.project_declarations.specs.declared.scopes.TheConstants as scope
use Rattle.project_declarations.specs.declared.rows.UnitNo.{UnitNo}
use Rattle.project_declarations.specs.declared.rows.What.{What}
use Rattle.project_declarations.specs.declared.rows.What.TheVariants as what

-- A name that a scope declares.
pub record Named : Type 0 where
  pub scope : ℕ
  pub name : List ℕ
  pub site : Site
  pub node : Node
  pub what : What

abbrev pub site_of : ℕ → Node → Site
site_of file node = record { file = file; node = node.number }

abbrev pub named : ℕ → ℕ → Identifier → What → Named
named file scope x what =
    record { scope = scope; name = x.name; site = site_of file x.node; node = x.node; what = what }

abbrev pub unit_no : ℕ → UnitNo
unit_no k = record { 0 = k }

-- what each of them is in its place, counted from a number on
abbrev pub each_from : {A B : Type 0} → (ℕ → A → B) → ℕ → List A → List B
each_from f k [] = []
each_from f k (x ∷ xs) = f k x ∷ each_from f (suc k) xs

-- what may be there
abbrev pub if_some : {A B : Type 0} → (A → List B) → Option A → List B
if_some f None = []
if_some f (Some x) = f x

-- the values of an enumeration, which its specification lists
abbrev pub values_of : ℕ → Node → List Identifier → List Named
values_of file node = each_from (λ k x. named file scope.VALUES x (what.Value (site_of file node) k)) 0

-- those of the enumeration that a specification lists, also as that of an array's elements
abbrev pub spec_values : ℕ → Spec-F (List Named) → List Named
spec_values file (Spec-F.«Type» node name limits) = []
spec_values file (Spec-F.Enumeration node names) = values_of file node names
spec_values file (Spec-F.Array node ranges element) = element

unfoldable pub values_in : ℕ → Spec → List Named
values_in file = fold-Spec (List Named) (spec_values file)

-- the variables that a declaration names
abbrev pub variable_named : ℕ → ℕ → Site → Identifier → Named
variable_named file scope site x = named file scope x (what.Variable site)

abbrev pub variables_of : ℕ → ℕ → Decl → List Named
variables_of file scope x = map (variable_named file scope (site_of file x.node)) x.names

-- Each of them at an address declares the address once more.
abbrev pub at_address : ℕ → Site → Address → Identifier → Named
at_address file site address x =
    record {
      scope = scope.ADDRESSES;
      name = address.name;
      site = site_of file x.node;
      node = x.node;
      what = what.Variable site;
    }

abbrev pub addresses_of : ℕ → Decl → List Named
addresses_of file x =
    if_some (λ address. map (at_address file (site_of file x.node) address) x.names) x.address

abbrev pub decl_names : ℕ → ℕ → Decl → List Named
decl_names file scope x =
    variables_of file scope x ++ (addresses_of file x ++ values_in file x.spec)

abbrev pub global_scope : ℕ
global_scope = scope.GLOBAL

abbrev pub local_scope : ℕ → ℕ
local_scope = scopes.locals

abbrev pub globals_names : ℕ → Globals → List Named
globals_names file x = flat_map (decl_names file global_scope) x.decls

abbrev pub section_names : ℕ → ℕ → Section → List Named
section_names file unit x = flat_map (decl_names file (local_scope unit)) x.decls

abbrev pub fields_values : ℕ → Fields → List Named
fields_values file x = values_in file x.spec

abbrev pub shape_values : ℕ → Shape → List Named
shape_values file (Shape.Spec spec) = values_in file spec
shape_values file (Shape.Structure node fields) = flat_map (fields_values file) fields

abbrev pub type_names : ℕ → TypeDecl → List Named
type_names file x =
    named file scope.OUTERMOST x.name (what.«Type» (site_of file x.node)) ∷ shape_values file x.shape

abbrev pub types_names : ℕ → Types → List Named
types_names file x = flat_map (type_names file) x.decls

abbrev pub node_of_type_name : TypeName → Node
node_of_type_name (TypeName.Elementary node elem) = node
node_of_type_name (TypeName.Named x) = x.node

-- A function's own name is one of its variables: its result.
abbrev pub result_names : ℕ → ℕ → Identifier → UnitKind → List Named
result_names file unit x (UnitKind.Function result) =
    named file (scopes.locals unit) x (what.Variable (site_of file (node_of_type_name result))) ∷ []
result_names file unit x UnitKind.Block = []
result_names file unit x UnitKind.Program = []

abbrev pub step_name : ℕ → ℕ → Step → Named
step_name file unit x = named file (scopes.steps unit) x.name (what.Step (site_of file x.node))

abbrev pub action_names : ℕ → ℕ → Action → List Named
action_names file unit x =
    named file (scopes.actions unit) x.name (what.Action (site_of file x.node)) ∷ []

abbrev pub chart_part_names : ℕ → ℕ → SfcPart → List Named
chart_part_names file unit (SfcPart.Step x) = step_name file unit x ∷ []
chart_part_names file unit (SfcPart.Transition x) = []
chart_part_names file unit (SfcPart.Action x) = action_names file unit x

abbrev pub chart_names : ℕ → ℕ → Sfc → List Named
chart_names file unit x =
    step_name file unit x.initial ∷ flat_map (chart_part_names file unit) x.parts

abbrev pub body_names : ℕ → ℕ → Body → List Named
body_names file unit (Body.Statements statements) = []
body_names file unit (Body.Chart chart) = chart_names file unit chart

-- the names of the unit of that number, its own among them
abbrev pub unit_names : ℕ → ℕ → Unit → List Named
unit_names file unit x =
    named file scope.OUTERMOST x.name (what.Unit (unit_no unit))
    ∷ (result_names file unit x.name x.kind
    ++ (flat_map (section_names file unit) x.sections ++ body_names file unit x.body))

abbrev pub task_name : ℕ → Task → Named
task_name file x = named file scope.TASKS x.name (what.Task (site_of file x.node))

abbrev pub line_name : ℕ → ProgramLine → Named
line_name file x = named file scope.LINES x.name (what.Line (site_of file x.node))

abbrev pub tasks_names : ℕ → Tasks → List Named
tasks_names file x = map (task_name file) x.tasks ++ map (line_name file) x.lines

abbrev pub resource_names : ℕ → Resource → List Named
resource_names file x = flat_map (globals_names file) x.globals ++ tasks_names file x.tasks

abbrev pub config_names : ℕ → Config → List Named
config_names file x =
    flat_map (globals_names file) x.globals
    ++ (flat_map (resource_names file) x.resources ++ tasks_names file x.tasks)
