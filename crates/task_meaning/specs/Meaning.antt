-- What a component does when it runs: the steps of its tasks, their faults, and its runs. Source: the execution of programs under tasks in
-- the standard, with single sequentially consistent accesses; this profile for the checks. No code runs a step.
use Rattle.std.specs.Prelude.{ℕ, List, [], ◌∷◌, map, Option, Some, None, if◌then◌else◌, slice_get, slice_set, ℤ}
use Rattle.iec_tables.specs.declared.kind.Kind.{Kind}
use Rattle.iec_tables.specs.declared.kind.Kind.TheVariants.{Overflow}
use Rattle.interval_domain.specs.Interval.{holds}
use Rattle.interval_domain.specs.Operators.{range_of, sum_of, difference_of}
use Rattle.st_tree.specs.declared.code.Cell.TheVariants.{Own, Shared}
use Rattle.st_tree.specs.declared.code.Operation.{Operation}
use Rattle.st_tree.specs.declared.code.CellInfo.{CellInfo}
use Rattle.st_tree.specs.declared.code.TaskCode.{TaskCode}
use Rattle.st_tree.specs.declared.code.Component.{Component}
use Rattle.st_tree.specs.declared.code.Operator.{Operator}
use Rattle.st_tree.specs.declared.code.Operator.TheVariants.{Add, Subtract}
use Rattle.st_tree.specs.declared.node.Site.{Site}
use Rattle.st_tree.specs.Code.{Instructions, Done, Literal, Read, Operate, Write, reading}

-- ---- what a task has

-- A cell is a list of numbers: that of a variable of an elementary type holds one.
abbrev pub Numbers : Type 0
Numbers = List ℤ

-- a number of a shared cell, and the task that wrote it last, or nobody
pub record Written : Type 0 where
  pub value : ℤ
  pub writer : Option ℕ

-- a piece of pending work
pub data Item : Type 0 where
  -- the start of the next cycle
  Cycle : Item
  -- instructions to be run
  Run : Instructions → Item

-- a task: its pending work, its pending numbers, its own cells
pub record TaskState : Type 0 where
  pub work : List Item
  pub stack : List ℤ
  pub own : List Numbers

abbrev pub doing : TaskState → List Item → TaskState
doing s work = record s { work = work }

-- the instructions come next, and these numbers are pending
abbrev pub go_to : TaskState → Instructions → List Item → List ℤ → TaskState
go_to s rest work stack = record s { work = Run rest ∷ work; stack = stack }

-- ---- one step

-- what a step does. Waits: there is nothing that the task can do
pub data Act : Type 0 where
  Goes : List (List Written) → TaskState → Act
  Faults : Kind → Site → (value : ℤ) → Act
  Waits : Act

-- the whole-number result of an operator
abbrev pub result_of : Operator → ℤ → ℤ → ℤ
result_of Add x y = sum_of x y
result_of Subtract x y = difference_of x y

-- a result outside the type of the expression is a fault at its node
abbrev pub checked : Operation → ℤ → (ℤ → Act) → Act
checked operation value go =
    if holds (range_of operation.elem) value then go value else Faults Overflow operation.site value

abbrev pub with_some : {A : Type 0} → Option A → (A → Act) → Act
with_some None go = Waits
with_some (Some x) go = go x

-- the number on top of the stack, and those below it
abbrev pub with_top : List ℤ → (ℤ → List ℤ → Act) → Act
with_top [] go = Waits
with_top (value ∷ below) go = go value below

-- the first number of a cell
abbrev pub with_first : {A : Type 0} → Option (List A) → (A → Act) → Act
with_first None go = Waits
with_first (Some []) go = Waits
with_first (Some (x ∷ xs)) go = go x

-- what runs in a cycle, and after it the next cycle
abbrev pub cycle_of : Instructions → List Item
cycle_of code = Run code ∷ (Cycle ∷ [])

-- The first instruction, done by task number `me` in this state, with this other work. Each makes at most one access to one cell.
abbrev pub instruct : (me : ℕ) → List (List Written) → Instructions → List Item → TaskState → Act
instruct me shared Done work s = Goes shared (doing s work)
instruct me shared (Literal value rest) work s = Goes shared (go_to s rest work (value ∷ s.stack))
instruct me shared (Read (Own place) rest) work s =
    with_first (slice_get s.own place) (λ value. Goes shared (go_to s rest work (value ∷ s.stack)))
instruct me shared (Read (Shared place) rest) work s =
    with_first (slice_get shared place) (λ number. Goes shared (go_to s rest work (number.value ∷ s.stack)))
instruct me shared (Operate operation rest) work s =
    with_top s.stack (λ right below. with_top below (λ left under.
    checked operation (result_of operation.operator left right) (λ value. Goes shared (go_to s rest work (value ∷ under)))))
instruct me shared (Write (Own place) rest) work s =
    with_top s.stack (λ value below.
    Goes shared (record (go_to s rest work below) { own = slice_set s.own place (value ∷ []) }))
instruct me shared (Write (Shared place) rest) work s =
    with_top s.stack (λ value below.
    Goes (slice_set shared place (record { value = value; writer = Some me } ∷ [])) (go_to s rest work below))

-- The first item of the work of task number `me`, which runs this code in each cycle.
abbrev pub act_on : Instructions → (me : ℕ) → List (List Written) → TaskState → List Item → Act
act_on code me shared s [] = Waits
act_on code me shared s (Cycle ∷ work) = Goes shared (record s { work = cycle_of code; stack = [] })
act_on code me shared s (Run instructions ∷ work) = instruct me shared instructions work s

abbrev pub act : Instructions → (me : ℕ) → List (List Written) → TaskState → Act
act code me shared s = act_on code me shared s s.work

-- ---- runs of a component

-- the shared cells, and what each task has
pub record State : Type 0 where
  pub shared : List (List Written)
  pub tasks : List TaskState

-- a step: of which task
pub record Move : Type 0 where
  pub task : ℕ

pub data Outcome : Type 0 where
  Continues : State → Outcome
  Faulty : State → (task : ℕ) → Kind → Site → (value : ℤ) → Outcome

abbrev pub acted : State → ℕ → Act → Outcome
acted state me (Goes shared s) = Continues (record { shared = shared; tasks = slice_set state.tasks me s })
acted state me (Faults kind site value) = Faulty state me kind site value
acted state me Waits = Continues state

abbrev pub step_of : State → ℕ → Option TaskCode → Option TaskState → Outcome
step_of state me None s = Continues state
step_of state me (Some task) None = Continues state
step_of state me (Some task) (Some s) = acted state me (act (reading task.code) me state.shared s)

abbrev pub step : Component → State → Move → Outcome
step component state move = step_of state move.task (slice_get component.tasks move.task) (slice_get state.tasks move.task)

abbrev pub go_on : Outcome → (State → Outcome) → Outcome
go_on (Continues state) go = go state
go_on (Faulty state task kind site value) go = Faulty state task kind site value

-- A run: a list of steps, each by any task, which ends at its first fault.
abbrev pub run : Component → List Move → State → Outcome
run component [] state = Continues state
run component (move ∷ moves) state = go_on (step component state move) (run component moves)

-- ---- the start

abbrev pub starts : List CellInfo → List Numbers
starts cells = map (λ cell. cell.start ∷ []) cells

abbrev pub state_at_start : TaskCode → TaskState
state_at_start task = record { work = Cycle ∷ []; stack = []; own = starts task.cells }

-- nobody has written a shared cell
abbrev pub unwritten : Numbers → List Written
unwritten numbers = map (λ value. record { value = value; writer = None }) numbers

abbrev pub start : Component → State
start component = record { shared = map unwritten (starts component.shared); tasks = map state_at_start component.tasks }
