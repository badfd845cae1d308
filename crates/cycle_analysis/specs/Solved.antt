-- What the answer of the analysis is, in the words of closed tables. Source: the code's answer has a row for the head of the cycle, one for
-- the writes and one for the ranges.
use Rattle.std.specs.Prelude.{◌≡◌, ◌<◌, ◌+◌, ℕ, Bool, true, false, List, [], ◌∷◌, ◌++◌, length, replicate, Some, slice_get, ℤ, IsPermutation, IsSorted}
use Rattle.std.specs.Ordering.{nat_cmp, ordering_then}
use Rattle.std.specs.declared.cmp.Ordering.{Ordering}
use Rattle.iec_tables.specs.Kinds.{code_of}
use Rattle.interval_domain.specs.Interval.{Interval, Empty, IsWithin, hull}
use Rattle.interval_domain.specs.Grid.{rounded}
use Rattle.st_tree.specs.declared.hit.Hit.{Hit}
use Rattle.st_tree.specs.declared.code.CellInfo.{CellInfo}
use Rattle.st_tree.specs.declared.code.TaskCode.{TaskCode}
use Rattle.st_tree.specs.declared.code.Component.{Component}
use Rattle.st_tree.specs.Code.{Instructions, reading}
use Rattle.st_tree.specs.Writes.{WritesCells}
use Rattle.cycle_analysis.specs.declared.row.Row.{Row}
use Rattle.cycle_analysis.specs.declared.solution.Solution.{Solution}
use Rattle.cycle_analysis.specs.declared.task_pass.Told.{Told}
use Rattle.cycle_analysis.specs.Pass.{State, Reached, Entry, Wrote, Alarm, Passed, at, pass}
use Rattle.cycle_analysis.specs.Fill.{Kept, all_noted, state_of, hits}
use Rattle.cycle_analysis.specs.Rows.{AreAll, raised, rooms}
use Rattle.cycle_analysis.specs.Table.{Head, Part, IsBelow, InPart, Each, points, IsClosed, IsSolution, IsTableWithin, own_range, shared_range, pass_of}

abbrev pub head_of : Row → Head
head_of row = record { own = row.own.items; views = row.shared.items }

-- the part that the answer is
abbrev pub table_of : Solution → Part
table_of s = record { cycle = head_of s.head; own = s.writes.own.items; shared = s.writes.shared.items }

-- the alarms that a log tells, each with its range
abbrev pub alarms_of : List Entry → List Hit
alarms_of [] = []
alarms_of (Wrote cell i ∷ log) = alarms_of log
alarms_of (Alarm kind site i ∷ log) = hits kind site i ++ alarms_of log

-- alarms are in the order of their file, node and kind
abbrev pub hit_cmp : Hit → Hit → Ordering
hit_cmp x y = ordering_then (ordering_then (nat_cmp x.site.file y.site.file) (nat_cmp x.site.node.0 y.site.node.0)) (nat_cmp (code_of x.kind) (code_of y.kind))

abbrev pub AreInOrder : List Hit → Type 0
AreInOrder alarms = IsSorted hit_cmp alarms

abbrev pub key_of : Hit → ℕ × ℕ × ℕ
key_of x = (x.site.file, x.site.node.0, code_of x.kind)

-- ---- steps on the way from the code to the table

-- the pass over the only task, from a head on
abbrev pub pass_from : Instructions → Head → Passed
pass_from code head = pass (record { during = [] }) code [] (Reached head.own head.views)

-- nothing told yet
abbrev pub blank_of : Told → Kept
blank_of t = record { own = replicate (length t.writes.own.items) Empty; shared = replicate (length t.writes.shared.items) Empty; alarms = [] }

-- the head holds the start values and each state at the end of a cycle, and the writes what the pass tells
pub record IsStable (grid : List ℤ) (code : Instructions) (cells shared : List CellInfo) (part : Part) : Type 0 where
  pub own_places : length part.cycle.own ≡ length cells
  pub shared_places : length part.cycle.views ≡ length shared
  pub start : IsBelow grid (Reached (points cells) (points shared)) part.cycle
  pub turns : IsBelow grid (pass_from code part.cycle).state part.cycle
  pub log : Each (InPart grid part) (pass_from code part.cycle).log

pub record IsHeadWithin (h k : Head) : Type 0 where
  pub own : (l : ℕ) → IsWithin (at h.own l) (at k.own l)
  pub views : (l : ℕ) → IsWithin (at h.views l) (at k.views l)

-- as many intervals as before, each no smaller
pub record IsRaisedFrom (old new : Head) : Type 0 where
  pub own_places : length new.own ≡ length old.own
  pub shared_places : length new.views ≡ length old.views
  pub larger : IsHeadWithin old new

-- a head of these cells that is within each stable part
pub record IsLeastHead (grid : List ℤ) (code : Instructions) (cells shared : List CellInfo) (head : Head) : Type 0 where
  pub own_places : length head.own ≡ length cells
  pub shared_places : length head.views ≡ length shared
  pub least : (part : Part) → IsStable grid code cells shared part → IsHeadWithin head part.cycle

-- a round from one head to the next: nothing has grown and the state at the end lies in the head, or the head has been raised by it
abbrev pub IsRound : List ℤ → State → (old new : Row) → (end : Row) → Bool → Type 0
IsRound grid s old new end false =
    (new.own.items ≡ old.own.items) × (new.shared.items ≡ old.shared.items) × IsBelow grid s (head_of old)
IsRound grid s old new end true =
    (s ≡ state_of end)
    × (length new.own.items ≡ length old.own.items)
    × (length new.shared.items ≡ length old.shared.items)
    × (length end.own.items ≡ length old.own.items)
    × (length end.shared.items ≡ length old.shared.items)
    × AreAll (raised grid old.own.items end.own.items) new.own.items
    × AreAll (raised grid old.shared.items end.shared.items) new.shared.items
    × (rooms new.own.items + rooms new.shared.items < rooms old.own.items + rooms old.shared.items)

-- what is kept, rounded
pub record IsRounded (grid : List ℤ) (kept : Kept) (own shared : List Interval) : Type 0 where
  pub own_is : (k : ℕ) → at own k ≡ rounded grid (at kept.own k)
  pub shared_is : (k : ℕ) → at shared k ≡ rounded grid (at kept.shared k)

-- the hull of the start value and the write of each cell
pub record AreRanges (cells shared : List CellInfo) (part : Part) (own views : List Interval) : Type 0 where
  pub own_is : (k : ℕ) → at own k ≡ hull (at (points cells) k) (at part.own k)
  pub shared_is : (k : ℕ) → at views k ≡ hull (at (points shared) k) (at part.shared k)

-- what the answer is of a task and the shared cells
pub record IsSolved (grid : List ℤ) (task : TaskCode) (shared : List CellInfo) (s : Solution) : Type 0 where
  pub own_writes : length s.writes.own.items ≡ length task.cells
  pub shared_writes : length s.writes.shared.items ≡ length shared
  pub start : IsBelow grid (Reached (points task.cells) (points shared)) (head_of s.head)
  pub turns : IsBelow grid (pass_from (reading task.code) (head_of s.head)).state (head_of s.head)
  pub least : IsLeastHead grid (reading task.code) task.cells shared (head_of s.head)
  pub writes : IsRounded grid (all_noted (record { own = replicate (length task.cells) Empty; shared = replicate (length shared) Empty; alarms = [] }) (pass_from (reading task.code) (head_of s.head)).log) s.writes.own.items s.writes.shared.items
  pub ranges : AreRanges task.cells shared (table_of s) s.ranges.own.items s.ranges.shared.items
  pub alarms : IsPermutation (alarms_of (pass_from (reading task.code) (head_of s.head)).log) s.alarms.items

-- the range of each cell
pub record HasRanges (component : Component) (task : TaskCode) (s : Solution) : Type 0 where
  pub own : (k : ℕ) → at s.ranges.own.items k ≡ own_range task (table_of s) k
  pub shared : (k : ℕ) → at s.ranges.shared.items k ≡ shared_range component (table_of s ∷ []) k

-- what the answer is of a component of one task
pub record Answers (grid : List ℤ) (component : Component) (s : Solution) : Type 0 where
  pub solution : WritesCells component → IsSolution grid component (table_of s ∷ [])
  pub least : (other : List Part) → IsClosed grid component other → IsTableWithin (table_of s ∷ []) other
  pub alarms : (task : TaskCode) → slice_get component.tasks 0 ≡ Some task → IsPermutation (alarms_of (pass_of task (table_of s ∷ []) 0).log) s.alarms.items
  pub ranges : (task : TaskCode) → slice_get component.tasks 0 ≡ Some task → HasRanges component task s
