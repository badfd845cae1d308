-- All that is known where an expression stands once all declarations of its project are known. Source:
-- this profile: the steps of a chart are seen in its unit's body alone, and have a type of their own.
use Rattle.std.specs.Prelude.{ℕ, List, length, Option, Some, None}
use Rattle.project_declarations.specs.Declarations.{Declaration, Placed}
use Rattle.project_declarations.specs.declared.rows.UnitNo.{UnitNo}
use Rattle.expression_types.specs.declared.meaning.ShapeNo.{ShapeNo}
use Rattle.declared_types.specs.BareForms.{BareForm}
use Rattle.declared_types.specs.declared.given.Given.{Given}
use Rattle.declared_names.specs.Project as names
use Rattle.declared_names.specs.Project.{Project, Known, Here, known}

-- the body of a unit
pub record Body : Type 0 where
  pub unit : UnitNo
  -- the type of the unit's steps
  pub step : ShapeNo

pub record Whole : Type 0 where
  pub known : Known
  pub here : Here
  -- what each type is that isn't elementary, by its number
  pub forms : List BareForm
  -- the body in which the expression stands
  pub body : Option Body

-- the type of steps is behind all others
abbrev pub body_of : List BareForm → UnitNo → Body
body_of forms unit = record { unit = unit; step = record { 0 = length forms } }

-- in a configuration
abbrev pub outside : Project → List (Option Given) → List BareForm → Whole
outside p given forms =
    record { known = known p given; here = names.outside p; forms = forms; body = None }

-- in the declaration of a number
abbrev pub in_declaration : Project → List (Option Given) → List BareForm → ℕ → Declaration → Whole
in_declaration p given forms n d =
    record { known = known p given; here = names.here n d; forms = forms; body = None }

-- in the body of a unit
abbrev pub in_body : Project → List (Option Given) → List BareForm → UnitNo → Placed → Whole
in_body p given forms unit x =
    record {
      known = known p given;
      here = names.in_unit p unit x;
      forms = forms;
      body = Some (body_of forms unit);
    }
