-- Closed tables, the solution, alarms and ranges. Source: thread-modular iteration until stable; the definition has no iteration. The
-- code goes round until nothing grows.
use Rattle.std.specs.Prelude.{◌≡◌, ◌⊎◌, ℕ, zero, suc, List, [], ◌∷◌, map, length, Some, slice_get, ℤ}
use Rattle.std.specs.List.{Contains}
use Rattle.iec_tables.specs.declared.kind.Kind.{Kind}
use Rattle.interval_domain.specs.Interval.{Interval, Span, Holds, IsWithin, hull}
use Rattle.interval_domain.specs.Operators.{kept}
use Rattle.interval_domain.specs.Grid.{rounded}
use Rattle.st_tree.specs.declared.code.Cell.TheVariants.{Own, Shared}
use Rattle.st_tree.specs.declared.code.TaskCode.{TaskCode}
use Rattle.st_tree.specs.declared.code.Component.{Component}
use Rattle.st_tree.specs.declared.node.Site.{Site}
use Rattle.st_tree.specs.declared.code.CellInfo.{CellInfo}
use Rattle.st_tree.specs.Code.{reading}
use Rattle.task_meaning.specs.Meaning.{State as Whole, TaskState, Numbers, Written, Move, Outcome, Continues, Faulty, start, run}
use Rattle.cycle_analysis.specs.Pass.{State, Unreachable, Reached, Entry, Wrote, Alarm, Passed, at, pass}

-- what holds at the head of a cycle: an interval of each own cell, and a view of each shared one
pub record Head : Type 0 where
  pub own : List Interval
  pub views : List Interval

-- what a table holds of a task: the head of its cycle, and what it writes to each cell
pub record Part : Type 0 where
  pub cycle : Head
  pub own : List Interval
  pub shared : List Interval

abbrev pub no_part : Part
no_part = record { cycle = record { own = []; views = [] }; own = []; shared = [] }

abbrev pub part_at : List Part → ℕ → Part
part_at [] k = no_part
part_at (p ∷ ps) zero = p
part_at (p ∷ ps) (suc k) = part_at ps k

abbrev pub hulls : List Interval → List Interval → List Interval
hulls [] js = js
hulls (i ∷ is) [] = i ∷ is
hulls (i ∷ is) (j ∷ js) = hull i j ∷ hulls is js

-- what all tasks write to the shared cells
abbrev pub all_writes : List Part → List Interval
all_writes [] = []
all_writes (p ∷ ps) = hulls p.shared (all_writes ps)

-- what the other tasks write to them
abbrev pub others : List Part → ℕ → List Interval
others [] me = []
others (p ∷ ps) zero = all_writes ps
others (p ∷ ps) (suc me) = hulls p.shared (others ps me)

-- the pass over task number `me`, from the head of its cycle on
abbrev pub pass_of : TaskCode → List Part → ℕ → Passed
pass_of task table me =
    pass (record { during = others table me }) (reading task.code) [] (Reached (part_at table me).cycle.own (part_at table me).cycle.views)

-- each interval, once rounded, lies in the entry of its place
abbrev pub AreWithin : List ℤ → List Interval → List Interval → Type 0
AreWithin grid is js = (k : ℕ) → IsWithin (rounded grid (at is k)) (at js k)

-- a state, once rounded, lies in the head
abbrev pub IsBelow : List ℤ → State → Head → Type 0
IsBelow grid Unreachable head = Unit {0}
IsBelow grid (Reached own views) head = AreWithin grid own head.own × AreWithin grid views head.views

-- what is told, once rounded, lies in the table
abbrev pub InPart : List ℤ → Part → Entry → Type 0
InPart grid part (Wrote (Own k) i) = IsWithin (rounded grid i) (at part.own k)
InPart grid part (Wrote (Shared k) i) = IsWithin (rounded grid i) (at part.shared k)
InPart grid part (Alarm kind site i) = Unit {0}

-- each entry of a list
abbrev pub Each : (Entry → Type 0) → List Entry → Type 0
Each P [] = Unit {0}
Each P (e ∷ es) = P e × Each P es

-- the start values of cells as intervals
abbrev pub points : List CellInfo → List Interval
points cells = map (λ cell. Span cell.start cell.start) cells

-- There is an interval for each cell.
pub record HasCells (component : Component) (task : TaskCode) (part : Part) : Type 0 where
  pub head : length part.cycle.own ≡ length task.cells
  pub views : length part.cycle.views ≡ length component.shared
  pub own : length part.own ≡ length task.cells
  pub shared : length part.shared ≡ length component.shared

-- The head of the cycle holds the start values and each state at the end of a cycle, and the writes what the pass tells, all rounded.
pub record IsClosedFor (grid : List ℤ) (component : Component) (table : List Part) (me : ℕ) (task : TaskCode) : Type 0 where
  pub cells : HasCells component task (part_at table me)
  pub start : IsBelow grid (Reached (points task.cells) (points component.shared)) (part_at table me).cycle
  pub turns : IsBelow grid (pass_of task table me).state (part_at table me).cycle
  pub log : Each (InPart grid (part_at table me)) (pass_of task table me).log

-- The table is closed: it has a part for each task, of which that holds.
pub record IsClosed (grid : List ℤ) (component : Component) (table : List Part) : Type 0 where
  pub parts : length table ≡ length component.tasks
  pub each : (me : ℕ) (task : TaskCode) → slice_get component.tasks me ≡ Some task → IsClosedFor grid component table me task

-- each entry of the first table lies in that of the second
pub record IsPartWithin (p q : Part) : Type 0 where
  pub head : (k : ℕ) → IsWithin (at p.cycle.own k) (at q.cycle.own k)
  pub views : (k : ℕ) → IsWithin (at p.cycle.views k) (at q.cycle.views k)
  pub own : (k : ℕ) → IsWithin (at p.own k) (at q.own k)
  pub shared : (k : ℕ) → IsWithin (at p.shared k) (at q.shared k)

abbrev pub IsTableWithin : List Part → List Part → Type 0
IsTableWithin table other = (me : ℕ) → IsPartWithin (part_at table me) (part_at other me)

-- The table that the analysis answers: the least closed one.
pub record IsSolution (grid : List ℤ) (component : Component) (table : List Part) : Type 0 where
  pub closed : IsClosed grid component table
  pub least : (other : List Part) → IsClosed grid component other → IsTableWithin table other

-- ---- alarms and ranges

-- there is an alarm of that kind at that node, with that value, its size kept in the limit of bounds, in its range
abbrev pub IsAlarmed : List Entry → Kind → Site → ℤ → Type 0
IsAlarmed [] kind site value = ⊥
IsAlarmed (Wrote cell i ∷ log) kind site value = IsAlarmed log kind site value
IsAlarmed (Alarm k n i ∷ log) kind site value = ((k ≡ kind) × (n ≡ site) × Holds i (kept value)) ⊎ IsAlarmed log kind site value

-- the range of an own cell: its start value and what the task writes to it
abbrev pub own_range : TaskCode → Part → ℕ → Interval
own_range task part k = hull (at (points task.cells) k) (at part.own k)

abbrev pub shared_range : Component → List Part → ℕ → Interval
shared_range component table k = hull (at (points component.shared) k) (at (all_writes table) k)

-- each number that a cell holds lies in its range
pub record InRanges (component : Component) (table : List Part) (state : Whole) : Type 0 where
  pub own : (me : ℕ) (task : TaskCode) (s : TaskState) (k : ℕ) (cell : Numbers) (v : ℤ) → slice_get component.tasks me ≡ Some task → slice_get state.tasks me ≡ Some s → slice_get s.own k ≡ Some cell → Contains cell v → Holds (own_range task (part_at table me) k) v
  pub shared : (k : ℕ) (cell : List Written) (number : Written) → slice_get state.shared k ≡ Some cell → Contains cell number → Holds (shared_range component table k) number.value

-- A run has not faulted, or its fault is at an alarm; and the ranges hold.
abbrev pub IsCovered : Component → List Part → Outcome → Type 0
IsCovered component table (Continues state) = InRanges component table state
IsCovered component table (Faulty state me kind site value) =
    InRanges component table state × ((task : TaskCode) × (slice_get component.tasks me ≡ Some task) × IsAlarmed (pass_of task table me).log kind site value)

-- Each run of a component, whoever takes each step, is covered by each closed table.
abbrev pub Theorem : Type 0
Theorem =
    (grid : List ℤ) (component : Component) (table : List Part) → IsClosed grid component table →
    (moves : List Move) → IsCovered component table (run component moves (start component))

abbrev pub HasNoAlarm : List Entry → Type 0
HasNoAlarm [] = Unit {0}
HasNoAlarm (Wrote cell i ∷ log) = HasNoAlarm log
HasNoAlarm (Alarm kind site i ∷ log) = ⊥

-- no pass over any task tells an alarm
abbrev pub IsFree : Component → List Part → Type 0
IsFree component table = (me : ℕ) (task : TaskCode) → slice_get component.tasks me ≡ Some task → HasNoAlarm (pass_of task table me).log

-- no fault, and the ranges hold
abbrev pub GoesOn : Component → List Part → Outcome → Type 0
GoesOn component table (Continues state) = InRanges component table state
GoesOn component table (Faulty state me kind site value) = ⊥

-- Where in addition no pass tells an alarm, no run faults.
abbrev pub Theorem_free : Type 0
Theorem_free =
    (grid : List ℤ) (component : Component) (table : List Part) → IsClosed grid component table → IsFree component table →
    (moves : List Move) → GoesOn component table (run component moves (start component))
