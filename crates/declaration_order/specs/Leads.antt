-- Which declarations a declaration names. Source: IEC 61131-3, scopes of identifiers, as this profile
-- narrows them: a name is a variable of the unit's own, else a global one; units, types and the names
-- of the standard share one outermost scope. What the names of scopes stand for is a function.
use Rattle.std.specs.Prelude.{ℕ, Bool, true, false, List, [], map, flat_map, cond, Option, Some, None}
use Rattle.std.specs.Option.{option_map, option_or, option_and_then, option_to_list}
use Rattle.st_tree.specs.declared.node.Site.{Site}
use Rattle.scope_names.specs.declared.names.NameRow.{NameRow}
use Rattle.scope_names.specs.Scopes.{first_of}
use Rattle.project_declarations.specs.Scopes as scopes
use Rattle.project_declarations.specs.Declarations.{Declaration}
use Rattle.project_declarations.specs.declared.scopes.TheConstants as scope
use Rattle.project_declarations.specs.declared.rows.What.{What}
use Rattle.project_declarations.specs.declared.rows.What.TheVariants as what
use Rattle.project_declarations.specs.declared.rows.Owner.{Owner}
use Rattle.declaration_references.specs.References.{Referred, in_declaration}
use Rattle.declaration_references.specs.declared.references.ReferenceKind.{ReferenceKind}
use Rattle.declaration_references.specs.declared.references.ReferenceKind.TheVariants as kind
use Rattle.declaration_order.specs.Numbers.{number_at}

-- what a name stands for in the scope of that number, where it is declared
abbrev pub Finds : Type 0
Finds = ℕ → List ℕ → Option What

-- by the first row that declares it
abbrev pub found_in : List (NameRow What) → Finds
found_in rows scope name = option_map (λ row. row.what) (first_of rows scope name)

abbrev pub type_site : Option What → Option Site
type_site None = None
type_site (Some (what.Unit unit)) = None
type_site (Some (what.«Type» site)) = Some site
type_site (Some (what.Variable site)) = None
type_site (Some (what.Value site place)) = None
type_site (Some (what.Task site)) = None
type_site (Some (what.Line site)) = None
type_site (Some (what.Step site)) = None
type_site (Some (what.Action site)) = None

abbrev pub variable_site : Option What → Option Site
variable_site None = None
variable_site (Some (what.Unit unit)) = None
variable_site (Some (what.«Type» site)) = None
variable_site (Some (what.Variable site)) = Some site
variable_site (Some (what.Value site place)) = None
variable_site (Some (what.Task site)) = None
variable_site (Some (what.Line site)) = None
variable_site (Some (what.Step site)) = None
variable_site (Some (what.Action site)) = None

abbrev pub type_named : Finds → List ℕ → Option Site
type_named finds name = type_site (finds scope.OUTERMOST name)

abbrev pub global_named : Finds → List ℕ → Option Site
global_named finds name = variable_site (finds scope.GLOBAL name)

-- a variable of the unit in which a declaration stands
abbrev pub own_named : Finds → Owner → List ℕ → Option Site
own_named finds Owner.«Type» name = None
own_named finds (Owner.Global keep) name = None
own_named finds (Owner.Local local) name = variable_site (finds (scopes.locals local.unit.0) name)
own_named finds (Owner.Result unit) name = variable_site (finds (scopes.locals unit.0) name)

abbrev pub variable_named : Finds → Owner → List ℕ → Option Site
variable_named finds owner name = option_or (own_named finds owner name) (global_named finds name)

-- where the declaration stands to which a name refers
abbrev pub site_named : Finds → Owner → ReferenceKind → List ℕ → Option Site
site_named finds owner kind.«Type» name = type_named finds name
site_named finds owner kind.Variable name = variable_named finds owner name
site_named finds owner kind.ValueType name = type_named finds name
site_named finds owner kind.Global name = global_named finds name

abbrev pub number_named : Finds → List Declaration → Owner → Referred → Option ℕ
number_named finds decls owner r =
    option_and_then (number_at decls) (site_named finds owner r.kind r.name)

-- ---- which of them count

abbrev pub Wanted : Type 0
Wanted = ReferenceKind → Bool

-- names by which a declaration leads to others; the type of a value leads nowhere
abbrev pub leads : Wanted
leads kind.«Type» = true
leads kind.Variable = true
leads kind.ValueType = false
leads kind.Global = true

-- types by their specifications
abbrev pub leads_by_type : Wanted
leads_by_type kind.«Type» = true
leads_by_type kind.Variable = false
leads_by_type kind.ValueType = false
leads_by_type kind.Global = false

-- the types of values
abbrev pub names_a_value : Wanted
names_a_value kind.«Type» = false
names_a_value kind.Variable = false
names_a_value kind.ValueType = true
names_a_value kind.Global = false

-- all of them
abbrev pub names : Wanted
names kind = true

abbrev pub target : Wanted → Finds → List Declaration → Owner → Referred → List ℕ
target wanted finds decls owner r =
    cond (wanted r.kind) (option_to_list (number_named finds decls owner r)) []

-- the declarations that one names, by number, as often as it names them
abbrev pub targets : Wanted → Finds → List Declaration → Declaration → List ℕ
targets wanted finds decls x = flat_map (target wanted finds decls x.owner) (in_declaration x)

-- those of each declaration
abbrev pub graph_of : Wanted → Finds → List Declaration → List (List ℕ)
graph_of wanted finds decls = map (targets wanted finds decls) decls
