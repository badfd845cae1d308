-- What the call of a name calls. Source: IEC 61131-3, functions and scopes of identifiers, as this profile
-- narrows them: a variable of the unit hides a function of its name, but not the function's own result; a
-- declaration of the project comes before what is left out of the standard.
use Rattle.std.specs.Prelude.{ℕ, Bool, true, false, not, if◌then◌else◌, List, Option, Some, None}
use Rattle.standard_names.specs.declared.function.StandardFunction.{StandardFunction}
use Rattle.standard_types.specs.Names.{function_named, is_left_out_function}
use Rattle.project_declarations.specs.declared.scopes.TheConstants as scope
use Rattle.project_declarations.specs.declared.rows.Owner.{Owner}
use Rattle.project_declarations.specs.declared.rows.Owner.TheVariants as owner
use Rattle.project_declarations.specs.declared.rows.UnitNo.{UnitNo}
use Rattle.project_declarations.specs.declared.rows.What.{What}
use Rattle.project_declarations.specs.declared.rows.What.TheVariants as what
use Rattle.expression_types.specs.declared.meaning.Callee.{Callee}
use Rattle.expression_types.specs.declared.meaning.Callee.TheVariants as callee
use Rattle.declared_names.specs.Project.{Project, finds, own_number, owner_at, is_function}
use Rattle.project_meanings.specs.Whole.{Whole}

-- ---- what hides a function

abbrev pub is_result : Option Owner → Bool
is_result (Some (owner.Result unit)) = true
is_result (Some (owner.Local local)) = false
is_result (Some (owner.Global keep)) = false
is_result (Some owner.«Type») = false
is_result None = false

abbrev pub hides : Project → Option ℕ → Bool
hides p None = false
hides p (Some n) = not (is_result (owner_at p n))

abbrev pub is_hidden : Whole → List ℕ → Bool
is_hidden w name = hides w.known.project (own_number w.known.project w.here.owner name)

-- ---- what is called

abbrev pub standard_or : Callee → Option StandardFunction → Callee
standard_or otherwise None = otherwise
standard_or otherwise (Some f) = callee.Standard f

-- a name that the project declares as no function, and one that it doesn't declare
abbrev pub declared_callee : List ℕ → Callee
declared_callee name = standard_or callee.Unknown (function_named name)

abbrev pub left_out_callee : List ℕ → Callee
left_out_callee name = if is_left_out_function name then callee.LeftOut else callee.Unknown

abbrev pub undeclared_callee : List ℕ → Callee
undeclared_callee name = standard_or (left_out_callee name) (function_named name)

abbrev pub unit_callee : Project → List ℕ → UnitNo → Callee
unit_callee p name unit =
    if is_function p unit then callee.Function (record { 0 = unit.0 }) else declared_callee name

abbrev pub outer_callee : Project → List ℕ → Option What → Callee
outer_callee p name None = undeclared_callee name
outer_callee p name (Some (what.Unit unit)) = unit_callee p name unit
outer_callee p name (Some other) = declared_callee name

abbrev pub callee_there : Whole → List ℕ → Callee
callee_there w name =
    if is_hidden w name then callee.Unknown
    else outer_callee w.known.project name (finds w.known.project scope.OUTERMOST name)
