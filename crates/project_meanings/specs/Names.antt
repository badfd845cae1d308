-- What a name alone stands for. Source: IEC 61131-3, scopes of identifiers and steps, as this profile
-- narrows them: in a body a variable of the unit comes before a step, and a step before a global; a step
-- alone is no value.
use Rattle.std.specs.Prelude.{ℕ, Bool, true, false, ◌&&◌, not, if◌then◌else◌, List, Option, Some, None}
use Rattle.project_declarations.specs.Scopes as scopes
use Rattle.project_declarations.specs.declared.rows.UnitNo.{UnitNo}
use Rattle.project_declarations.specs.declared.rows.What.{What}
use Rattle.project_declarations.specs.declared.rows.What.TheVariants as what
use Rattle.expression_types.specs.declared.meaning.Seen.{Seen}
use Rattle.expression_types.specs.declared.meaning.Seen.TheVariants as seen
use Rattle.declared_names.specs.Project.{Project, finds, own_number}
use Rattle.declared_names.specs.Seen.{seen_here}
use Rattle.project_meanings.specs.Whole.{Whole, Body}

abbrev pub is_step : Option What → Bool
is_step None = false
is_step (Some (what.Step site)) = true
is_step (Some (what.Unit unit)) = false
is_step (Some (what.«Type» site)) = false
is_step (Some (what.Variable site)) = false
is_step (Some (what.Value site place)) = false
is_step (Some (what.Task site)) = false
is_step (Some (what.Line site)) = false
is_step (Some (what.Action site)) = false

-- the unit's chart has a step of that name
abbrev pub has_step : Project → UnitNo → List ℕ → Bool
has_step p unit name = is_step (finds p (scopes.steps unit.0) name)

abbrev pub is_there : Option ℕ → Bool
is_there None = false
is_there (Some n) = true

-- the unit has a variable of that name
abbrev pub has_own : Whole → List ℕ → Bool
has_own w name = is_there (own_number w.known.project w.here.owner name)

-- the name is that of a step, which no variable hides
abbrev pub sees_step : Whole → Body → List ℕ → Bool
sees_step w b name = has_step w.known.project b.unit name && not (has_own w name)

abbrev pub seen_by : Whole → List ℕ → Option Body → Seen
seen_by w name None = seen_here w.known w.here name
seen_by w name (Some b) =
    if sees_step w b name then seen.NoValue b.step else seen_here w.known w.here name

abbrev pub seen_there : Whole → List ℕ → Seen
seen_there w name = seen_by w name w.body
