-- What a project declares, what is known of its declarations, and where one of them stands. Source: IEC
-- 61131-3, scopes of identifiers, as this profile narrows them: a name is a variable of the unit's own,
-- else a global one; a VAR_EXTERNAL stands for the global of its name.
use Rattle.std.specs.Prelude.{ℕ, nat_lt, Bool, true, false, ◌&&◌, not, if◌then◌else◌, List, length, slice_get, Option, Some, None}
use Rattle.std.specs.Option.{option_and_then, option_map}
use Rattle.st_tree.specs.declared.node.Site.{Site}
use Rattle.st_tree.specs.declared.declaration.Keep.{Keep}
use Rattle.st_tree.specs.declared.declaration.Keep.TheVariants as keep
use Rattle.st_tree.specs.declared.declaration.SectionKind.{SectionKind}
use Rattle.st_tree.specs.declared.declaration.SectionKind.TheVariants as section
use Rattle.st_tree.specs.declared.file.UnitKind.{UnitKind}
use Rattle.scope_names.specs.declared.names.NameRow.{NameRow}
use Rattle.project_declarations.specs.Declarations.{Declaration, Placed}
use Rattle.project_declarations.specs.Scopes as scopes
use Rattle.project_declarations.specs.declared.rows.Local.{Local}
use Rattle.project_declarations.specs.declared.rows.Owner.{Owner}
use Rattle.project_declarations.specs.declared.rows.Owner.TheVariants as owner
use Rattle.project_declarations.specs.declared.rows.UnitNo.{UnitNo}
use Rattle.project_declarations.specs.declared.rows.What.{What}
use Rattle.declaration_order.specs.Leads.{Finds, found_in, variable_site, own_named, global_named}
use Rattle.declaration_order.specs.LeadBack.{Components}
use Rattle.declaration_order.specs.Numbers.{number_at}
use Rattle.declared_types.specs.declared.given.Given.{Given}

pub record Project : Type 0 where
  -- the names of all scopes, in order
  pub names : List (NameRow What)
  -- in file and text order
  pub units : List Placed
  -- each is known by its place here
  pub decls : List Declaration
  -- which of them lead to one another
  pub components : Components

-- what declarations give, as far as they are known
pub record Known : Type 0 where
  pub project : Project
  pub given : List (Option Given)

abbrev pub known : Project → List (Option Given) → Known
known p given = record { project = p; given = given }

-- where a declaration stands
pub record Here : Type 0 where
  pub number : ℕ
  pub file : ℕ
  pub owner : Owner

abbrev pub here : ℕ → Declaration → Here
here n d = record { number = n; file = d.file; owner = d.owner }

-- outside all units, in no declaration
abbrev pub outside : Project → Here
outside p = record { number = length p.decls; file = 0; owner = owner.Global None }

-- what belongs to the body of a unit sees what its variables see
abbrev pub body_owner : UnitNo → Owner
body_owner unit = owner.Local (record { unit = unit; kind = section.Var; keep = None })

-- in the body of a unit, in no declaration
abbrev pub in_unit : Project → UnitNo → Placed → Here
in_unit p unit x = record { number = length p.decls; file = x.file; owner = body_owner unit }

-- ---- names

-- the scope of the unit's own variables
abbrev pub own_scope : Owner → Option ℕ
own_scope (owner.Local local) = Some (scopes.locals local.unit.0)
own_scope (owner.Result unit) = Some (scopes.locals unit.0)
own_scope (owner.Global keep) = None
own_scope owner.«Type» = None

abbrev pub finds : Project → Finds
finds p = found_in p.names

abbrev pub number_there : Project → Option Site → Option ℕ
number_there p site = option_and_then (number_at p.decls) site

-- the declaration of the variable that a name stands for in a scope
abbrev pub number_named : Project → ℕ → List ℕ → Option ℕ
number_named p scope name = number_there p (variable_site (finds p scope name))

-- a variable of the unit of a number
abbrev pub number_in_unit : Project → UnitNo → List ℕ → Option ℕ
number_in_unit p unit name =
    if nat_lt unit.0 (length p.units) then number_named p (scopes.locals unit.0) name else None

abbrev pub global_number : Project → List ℕ → Option ℕ
global_number p name = number_there p (global_named (finds p) name)

-- a variable of the unit's own
abbrev pub own_number : Project → Owner → List ℕ → Option ℕ
own_number p o name = number_there p (own_named (finds p) o name)

abbrev pub or_global : Project → List ℕ → Option ℕ → Option ℕ
or_global p name None = global_number p name
or_global p name (Some n) = Some n

abbrev pub variable_number : Project → Owner → List ℕ → Option ℕ
variable_number p o name = or_global p name (own_number p o name)

-- ---- what a declaration belongs to

abbrev pub owner_at : Project → ℕ → Option Owner
owner_at p n = option_map (λ (d : Declaration). d.owner) (slice_get p.decls n)

abbrev pub is_constant_keep : Option Keep → Bool
is_constant_keep (Some keep.Constant) = true
is_constant_keep (Some keep.Retain) = false
is_constant_keep (Some keep.NonRetain) = false
is_constant_keep None = false

abbrev pub is_var : SectionKind → Bool
is_var section.Var = true
is_var section.Input = false
is_var section.Output = false
is_var section.InOut = false
is_var section.External = false
is_var section.Temp = false

abbrev pub is_external_kind : SectionKind → Bool
is_external_kind section.External = true
is_external_kind section.Var = false
is_external_kind section.Input = false
is_external_kind section.Output = false
is_external_kind section.InOut = false
is_external_kind section.Temp = false

-- A constant of the project or of a unit. A VAR_EXTERNAL is none: its global may be one.
abbrev pub is_constant : Option Owner → Bool
is_constant (Some (owner.Global keep)) = is_constant_keep keep
is_constant (Some (owner.Local local)) = is_var local.kind && is_constant_keep local.keep
is_constant (Some owner.«Type») = false
is_constant (Some (owner.Result unit)) = false
is_constant None = false

abbrev pub is_external : Option Owner → Bool
is_external (Some (owner.Local local)) = is_external_kind local.kind
is_external (Some (owner.Global keep)) = false
is_external (Some owner.«Type») = false
is_external (Some (owner.Result unit)) = false
is_external None = false

abbrev pub function_kind : UnitKind → Bool
function_kind (UnitKind.Function result) = true
function_kind UnitKind.Block = false
function_kind UnitKind.Program = false

abbrev pub is_function_unit : Option Placed → Bool
is_function_unit None = false
is_function_unit (Some x) = function_kind x.unit.kind

abbrev pub is_function : Project → UnitNo → Bool
is_function p unit = is_function_unit (slice_get p.units unit.0)

abbrev pub in_function : Project → Owner → Bool
in_function p (owner.Local local) = is_function p local.unit
in_function p (owner.Result unit) = is_function p unit
in_function p (owner.Global keep) = false
in_function p owner.«Type» = false

-- a variable in a VAR section of a program or a block that isn't constant
abbrev pub is_own_variable : Project → Local → Bool
is_own_variable p local =
    is_var local.kind && (not (is_constant_keep local.keep) && not (is_function p local.unit))

-- ---- what is known of a declaration

abbrev pub if_there : Option (Option Given) → Option Given
if_there None = None
if_there (Some g) = g

-- what the declaration of a number gives; none where it holds a fault
abbrev pub given_at : Known → ℕ → Option Given
given_at k n = if_there (slice_get k.given n)
