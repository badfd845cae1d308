-- One pass of the analysis over the code of a task: its structural meaning over intervals. Source: thread-modular abstract interpretation,
-- in which a task reads its own view of a shared cell or what the other tasks write. The definition tells a log; the code fills a
-- table as it goes.
use Rattle.std.specs.Prelude.{ℕ, zero, suc, if◌then◌else◌, List, [], ◌∷◌, ◌++◌}
use Rattle.iec_tables.specs.declared.kind.Kind.{Kind}
use Rattle.iec_tables.specs.declared.kind.Kind.TheVariants.{Overflow}
use Rattle.interval_domain.specs.Interval.{Interval, Empty, Span, hull}
use Rattle.interval_domain.specs.Operators.{range_of, add_raw, sub_raw, typed, is_alarmed}
use Rattle.st_tree.specs.declared.code.Cell.{Cell}
use Rattle.st_tree.specs.declared.code.Cell.TheVariants.{Own, Shared}
use Rattle.st_tree.specs.declared.code.Operation.{Operation}
use Rattle.st_tree.specs.declared.code.Operator.{Operator}
use Rattle.st_tree.specs.declared.code.Operator.TheVariants.{Add, Subtract}
use Rattle.st_tree.specs.declared.node.Site.{Site}
use Rattle.st_tree.specs.Code.{Instructions, Done, Literal, Read, Operate, Write}
use Rattle.cycle_analysis.specs.declared.task_pass.Value.{Value}
use Rattle.cycle_analysis.specs.declared.task_pass.Value.TheVariants.{Plain, Of}

-- ---- lists of intervals, empty past their end

abbrev pub at : List Interval → ℕ → Interval
at [] k = Empty
at (i ∷ is) zero = i
at (i ∷ is) (suc k) = at is k

-- a cell that isn't there takes nothing
abbrev pub put : List Interval → ℕ → Interval → List Interval
put [] k j = []
put (i ∷ is) zero j = j ∷ is
put (i ∷ is) (suc k) j = i ∷ put is k j

-- the same by a cell
abbrev pub cell_at : Cell → (own shared : List Interval) → Interval
cell_at (Own k) own shared = at own k
cell_at (Shared k) own shared = at shared k

abbrev pub own_put : Cell → Interval → List Interval → List Interval
own_put (Own k) i own = put own k i
own_put (Shared k) i own = own

abbrev pub shared_put : Cell → Interval → List Interval → List Interval
shared_put (Own k) i shared = shared
shared_put (Shared k) i shared = put shared k i

-- ---- states

-- what is known at a point of a task: an interval of each own cell, and a view of each shared one
pub data State : Type 0 where
  Unreachable : State
  Reached : (own views : List Interval) → State

-- the numbers of an entry of the stack; it was read from a cell, or came about otherwise
abbrev pub interval_of : Value → Interval
interval_of (Plain i) = i
interval_of (Of cell i) = i

-- what a pass tells
pub data Entry : Type 0 where
  Wrote : Cell → Interval → Entry
  Alarm : Kind → Site → Interval → Entry

-- what a pass is given: what the other tasks write to each shared cell
pub record Rely : Type 0 where
  pub during : List Interval

-- nothing where the interval is empty
abbrev pub unless_empty : Interval → State → State
unless_empty Empty s = Unreachable
unless_empty (Span a b) s = s

abbrev pub own_at : State → ℕ → Interval
own_at Unreachable k = Empty
own_at (Reached own views) k = at own k

abbrev pub view_at : State → ℕ → Interval
view_at Unreachable k = Empty
view_at (Reached own views) k = at views k

abbrev pub put_at : Cell → Interval → State → State
put_at cell i Unreachable = Unreachable
put_at (Own k) i (Reached own views) = Reached (put own k i) views
put_at (Shared k) i (Reached own views) = Reached own (put views k i)

abbrev pub assigned : Cell → Interval → State → State
assigned cell i s = unless_empty i (put_at cell i s)

-- the log of a point, empty where it isn't reached
abbrev pub log_at : State → List Entry → List Entry
log_at Unreachable log = []
log_at (Reached own views) log = log

-- ---- instructions

-- an own cell gives its interval; a shared one its view joined with what the other tasks write
abbrev pub read_value : Rely → Cell → State → Value
read_value rely (Own k) s = Of (Own k) (own_at s k)
read_value rely (Shared k) s = Of (Shared k) (hull (view_at s k) (at rely.during k))

abbrev pub raw_of : Operator → Interval → Interval → Interval
raw_of Add i j = add_raw i j
raw_of Subtract i j = sub_raw i j

-- an alarm where the raw result leaves the type
abbrev pub operation_log : Operation → Interval → List Entry
operation_log o raw = if is_alarmed Overflow raw (range_of o.elem) then Alarm Overflow o.site raw ∷ [] else []

abbrev pub operation_value : Operation → Interval → Value
operation_value o raw = Plain (typed o.elem raw)

-- where a pass ends: the state there, and what was told
pub record Passed : Type 0 where
  pub state : State
  pub log : List Entry

abbrev pub after : List Entry → Passed → Passed
after log p = record { state = p.state; log = log ++ p.log }

-- nothing is reached past a missing number
abbrev pub nothing : Passed
nothing = record { state = Unreachable; log = [] }

abbrev pub with_top : List Value → (Value → List Value → Passed) → Passed
with_top [] go = nothing
with_top (v ∷ below) go = go v below

-- The pass over instructions, from these values of the stack and this state on.
abbrev pub pass : Rely → Instructions → List Value → State → Passed
pass rely Done stack s = record { state = s; log = [] }
pass rely (Literal value rest) stack s = pass rely rest (Plain (Span value value) ∷ stack) s
pass rely (Read cell rest) stack s =
    pass rely rest (read_value rely cell s ∷ stack) (unless_empty (interval_of (read_value rely cell s)) s)
pass rely (Operate o rest) stack s =
    with_top stack (λ right below. with_top below (λ left under.
    let raw = raw_of o.operator (interval_of left) (interval_of right) in
    after (log_at s (operation_log o raw))
    (pass rely rest (operation_value o raw ∷ under) (unless_empty (typed o.elem raw) s))))
pass rely (Write cell rest) stack s =
    with_top stack (λ v below.
    after (log_at s (Wrote cell (interval_of v) ∷ []))
    (pass rely rest below (assigned cell (interval_of v) s)))
