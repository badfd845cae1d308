-- What the worklist keeps. Source: the code, which evaluates waiting units in turn, and lets those wait that
-- read a raised entry.
use Rattle.std.specs.Prelude.{◌≡◌, ℕ, ◌+◌, ◌<◌, ◌≤◌, ◌⊎◌, Bool, true, false, List, [], length, get_or, ◌≤ℤ◌}
use Rattle.std.specs.List.{Contains}
use Rattle.interval_domain.specs.Interval.{Interval, Empty, Span, IsWithin}
use Rattle.least_table.specs.System.{Meaning, at, AreWithin, AreOnGrid, IsTable, IsClosed, readers_of, readings}

-- a bound of the second interval, which isn't empty, lies beyond the first
abbrev pub Exceeds : Interval → Interval → Type 0
Exceeds i Empty = ⊥
Exceeds i (Span low high) = (low ≤ℤ high) × (IsWithin (Span low high) i → ⊥)

-- ---- waiting units

-- how many units there are, and those that wait, in order
pub record Waiting : Type 0 where
  pub units : ℕ
  pub queue : List ℕ

-- each waiting unit is one, and each marked one waits
pub record AreMarked (marks : List Bool) (queue : List ℕ) : Type 0 where
  pub inside : (unit : ℕ) → Contains queue unit → unit < length marks
  pub waiting : (unit : ℕ) → get_or marks unit false ≡ true → Contains queue unit

-- behind the waiting units, those of the given ones that didn't wait yet
pub record IsQueued (units before after : List ℕ) : Type 0 where
  pub kept : (unit : ℕ) → Contains before unit → Contains after unit
  pub put : (unit : ℕ) → Contains units unit → Contains after unit
  pub longer : length before ≤ length after
  pub bounded : length after ≤ length before + length units

-- for each entry the units that read it
pub record AreReaders (m : Meaning) (readers : List (List ℕ)) : Type 0 where
  pub entries : length readers ≡ length m.widest
  pub each : (entry : ℕ) → entry < length m.widest → get_or readers entry [] ≡ readers_of m entry

-- the entry stays and no more units wait, or it rises and its readers wait
abbrev pub IsSettled : (old new : Interval) → (readers before after : List ℕ) → Type 0
IsSettled old new readers before after =
    ((old ≡ new) × (after ≡ before)) ⊎ (Exceeds old new × IsQueued readers before after)

-- ---- tables on the way

-- a table on the grid that is within each closed one
pub record IsBelow (m : Meaning) (table : List Interval) : Type 0 where
  pub is_table : IsTable m table
  pub on_grid : AreOnGrid m.grid table
  pub least : (other : List Interval) → IsClosed m other → AreWithin table other

-- what the unit gives under a table is in another one
abbrev pub IsGiven : Meaning → ℕ → (table bound : List Interval) → Type 0
IsGiven m unit table bound =
    (entry : ℕ) → entry < length m.widest → IsWithin (m.gives unit table entry) (at bound entry)

-- each unit waits, or what it gives under a table is in another one
abbrev pub AreSettled : Meaning → (waiting : List ℕ) → (table bound : List Interval) → Type 0
AreSettled m waiting table bound = (unit : ℕ) → unit < m.units → Contains waiting unit ⊎ IsGiven m unit table bound

-- From one table and queue to others: at most as many units more wait as readings were added.
pub record IsCounted (m : Meaning) (table new : List Interval) (before after : List ℕ) : Type 0 where
  pub longer : length before ≤ length after
  pub bounded : length after + readings m table ≤ length before + readings m new

-- on the way from a table to the next one
pub record IsOnTheWay (m : Meaning) (next start table : List Interval) (before after : List ℕ) : Type 0 where
  pub below : IsBelow m table
  pub inside : AreWithin table next
  pub kept : (entry : ℕ) → at start entry ≡ at next entry → at table entry ≡ at next entry
  pub settled : AreSettled m after table next
  pub counted : IsCounted m start table before after

-- a unit was evaluated: the table holds what it gave, and the units that read what rose wait
pub record IsEvaluated (m : Meaning) (table new : List Interval) (before after : List ℕ) : Type 0 where
  pub below : IsBelow m new
  pub settled : AreSettled m after new new
  pub counted : IsCounted m table new before after
