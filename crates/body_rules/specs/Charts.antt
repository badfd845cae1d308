-- Charts, and bodies of units. Source: IEC 61131-3, sequential function charts: steps, transitions, actions
-- and their qualifiers; which faults stand is this profile's. Two steps or two actions of one name are
-- told elsewhere, with the other names that scopes declare.
use Rattle.std.specs.Prelude.{ℕ, ◌||◌, Bool, List, [], ◌∷◌, ◌++◌, flat_map, codes, if◌then◌else◌, Option, Some, None}
use Rattle.st_tree.specs.declared.expression.Identifier.{Identifier}
use Rattle.st_tree.specs.declared.file.Body.{Body}
use Rattle.st_tree.specs.declared.file.Body.TheVariants as bodies
use Rattle.st_tree.specs.declared.chart.Sfc.{Sfc}
use Rattle.st_tree.specs.declared.chart.SfcPart.{SfcPart}
use Rattle.st_tree.specs.declared.chart.SfcPart.TheVariants as part
use Rattle.st_tree.specs.declared.chart.Step.{Step}
use Rattle.st_tree.specs.declared.chart.Association.{Association}
use Rattle.st_tree.specs.declared.chart.Transition.{Transition}
use Rattle.st_tree.specs.declared.chart.StepNames.{StepNames}
use Rattle.st_tree.specs.declared.chart.StepNames.TheVariants as names
use Rattle.link_faults.specs.declared.code.LinkCode.TheVariants as code
use Rattle.link_faults.specs.declared.fault.LinkFault.{LinkFault}
use Rattle.body_rules.specs.Loops.{is_same_name}
use Rattle.body_rules.specs.Surroundings.{Here}
use Rattle.body_rules.specs.Told.{fault, fault_where, fault_unless}
use Rattle.body_rules.specs.Statements.{condition, statements}

-- ---- steps with their actions

-- a BOOL variable in place of an action is out of profile
abbrev pub no_action : Here → Association → List LinkFault
no_action h a =
    if h.around.is_truth a.action.name then fault h a.node code.OutOfProfile
    else fault h a.action.node code.Unknown

abbrev pub action : Here → Association → List LinkFault
action h a = if h.around.has_action a.action.name then [] else no_action h a

abbrev pub is_qualifier : List ℕ → Bool
is_qualifier name =
    is_same_name name (codes "N") || (is_same_name name (codes "S")
    || (is_same_name name (codes "R") || is_same_name name (codes "P")))

abbrev pub qualified : Here → Option Identifier → List LinkFault
qualified h None = []
qualified h (Some q) = fault_unless h (is_qualifier q.name) q.node code.OutOfProfile

abbrev pub association : Here → Association → List LinkFault
association h a = action h a ++ qualified h a.qualifier

abbrev pub step : Here → Step → List LinkFault
step h s = flat_map (association h) s.associations

-- ---- transitions

abbrev pub step_named : Here → Identifier → List LinkFault
step_named h i = fault_unless h (h.around.has_step i.name) i.node code.Unknown

abbrev pub steps_named : Here → StepNames → List LinkFault
steps_named h (names.One i) = step_named h i
steps_named h (names.Several node list) = flat_map (step_named h) list

-- a name behind one that is the same
abbrev pub again : Here → Identifier → Identifier → List LinkFault
again h i later = fault_where h (is_same_name i.name later.name) later.node code.Twice

abbrev pub all_again : Here → List Identifier → List LinkFault
all_again h [] = []
all_again h (i ∷ later) = flat_map (again h i) later ++ all_again h later

-- a step is named once where a transition leads from
abbrev pub named_twice : Here → StepNames → List LinkFault
named_twice h (names.One i) = []
named_twice h (names.Several node list) = all_again h list

abbrev pub transition : Here → Transition → List LinkFault
transition h t =
    steps_named h t.from ++ (named_twice h t.from ++ (steps_named h t.to ++ condition h t.condition))

-- ---- charts and bodies

abbrev pub chart_part : Here → SfcPart → List LinkFault
chart_part h (part.Step s) = step h s
chart_part h (part.Transition t) = transition h t
chart_part h (part.Action a) = statements h a.body []

abbrev pub chart : Here → Sfc → List LinkFault
chart h c = step h c.initial ++ flat_map (chart_part h) c.parts

-- the faults of a unit's body
abbrev pub body : Here → Body → List LinkFault
body h (bodies.Statements list) = statements h list []
body h (bodies.Chart c) = chart h c
