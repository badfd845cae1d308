-- Systems over a finite grid, their closed tables and the least of them. Source: interval analysis, in
-- which the least fixpoint of a monotone operator is the least table that holds what the operator gives for
-- it. The code evaluates units until nothing grows; here no unit comes before another and nothing is done
-- again.
use Rattle.std.specs.Prelude.{◌≡◌, ℕ, ◌+◌, ◌*◌, ◌<◌, ◌≤◌, ◌⊎◌, Bool, true, List, [], ◌∷◌, length, get_or, replicate, ℤ}
use Rattle.std.specs.List.{filter, range_with_len, sum_by}
use Rattle.std.specs.List.Sorted.{IsStrictlySortedBy}
use Rattle.std.specs.Ordering.{int_cmp}
use Rattle.interval_domain.specs.Interval.{Interval, Empty, IsOrdered, IsWithin, hull, holds}
use Rattle.interval_domain.specs.Grid.{IsOnGrid}

-- a table as contracts see it: the intervals of its entries
abbrev pub Intervals : Type 0
Intervals = List Interval

-- What a system means: its grid, the widest interval of each entry, how many units it has, what a unit
-- gives under a table for an entry, and which entries it reads.
pub record Meaning : Type 0 where
  pub grid : List ℤ
  pub widest : List Interval
  pub units : ℕ
  pub gives : ℕ → List Interval → ℕ → Interval
  pub reads : ℕ → ℕ → Bool

-- the interval of an entry, empty where there is no such entry
abbrev pub at : List Interval → ℕ → Interval
at table entry = get_or table entry Empty

-- each entry of the first table lies in that of the second
abbrev pub AreWithin : List Interval → List Interval → Type 0
AreWithin table other = (entry : ℕ) → IsWithin (at table entry) (at other entry)

-- each is empty, or its low bound is at most its high one
abbrev pub AreOrdered : List Interval → Type 0
AreOrdered table = (entry : ℕ) → IsOrdered (at table entry)

-- each is empty, or its bounds are numbers of the grid
abbrev pub AreOnGrid : List ℤ → List Interval → Type 0
AreOnGrid grid table = (entry : ℕ) → IsOnGrid grid (at table entry)

-- a table of the system: an interval for each entry, in its widest one
pub record IsTable (m : Meaning) (table : List Interval) : Type 0 where
  pub entries : length table ≡ length m.widest
  pub ordered : AreOrdered table
  pub within : AreWithin table m.widest

-- two tables agree on the entries that a unit reads
abbrev pub AgreeFor : Meaning → ℕ → List Interval → List Interval → Type 0
AgreeFor m unit table other =
    (entry : ℕ) → entry < length m.widest → m.reads unit entry ≡ true → at table entry ≡ at other entry

-- The law of a system. The grid rises; the widest intervals are ordered and on it, and so is what a unit
-- gives under a table, which lies in the widest interval. Under a larger table no unit gives less, and
-- under two tables that agree on the entries that a unit reads it gives the same.
pub record IsMonotone (m : Meaning) : Type 0 where
  pub rising : IsStrictlySortedBy int_cmp m.grid
  pub widest_ordered : AreOrdered m.widest
  pub widest_on_grid : AreOnGrid m.grid m.widest
  pub ordered : (unit : ℕ) (table : List Interval) → unit < m.units → IsTable m table → (entry : ℕ)
      → entry < length m.widest → IsOrdered (m.gives unit table entry)
  pub on_grid : (unit : ℕ) (table : List Interval) → unit < m.units → IsTable m table → (entry : ℕ)
      → entry < length m.widest → IsOnGrid m.grid (m.gives unit table entry)
  pub within : (unit : ℕ) (table : List Interval) → unit < m.units → IsTable m table → (entry : ℕ)
      → entry < length m.widest → IsWithin (m.gives unit table entry) (at m.widest entry)
  pub larger : (unit : ℕ) (table other : List Interval) → unit < m.units → IsTable m table → IsTable m other
      → AreWithin table other → (entry : ℕ) → entry < length m.widest
      → IsWithin (m.gives unit table entry) (m.gives unit other entry)
  pub same : (unit : ℕ) (table other : List Interval) → unit < m.units → IsTable m table → IsTable m other
      → AgreeFor m unit table other → (entry : ℕ) → entry < length m.widest
      → m.gives unit table entry ≡ m.gives unit other entry

-- the unit gives nothing before the one entry, nor from the other on
abbrev pub GivesBetween : Meaning → ℕ → (from to : ℕ) → Type 0
GivesBetween m unit from to =
    (table : List Interval) → IsTable m table → (entry : ℕ) → entry < length m.widest → (entry < from) ⊎
    (to ≤ entry) → m.gives unit table entry ≡ Empty

-- as many entries as before, each joined with what is given for it
pub record IsJoined (given : ℕ → Interval) (old new : List Interval) : Type 0 where
  pub entries : length new ≡ length old
  pub each : (entry : ℕ) → entry < length old → at new entry ≡ hull (at old entry) (given entry)

-- from one table to another by evaluating units in turn: what each gives under the table as it then is, is
-- joined into it
abbrev pub IsRun : Meaning → (units : List ℕ) → (start end : List Interval) → Type 0
IsRun m [] start end = end ≡ start
IsRun m (unit ∷ units) start end =
    (unit < m.units) × ((next : List Interval) × IsJoined (m.gives unit start) start next × IsRun m units next end)

-- the table comes from the empty one by a run of as many evaluations as steps were counted
abbrev pub IsFoundBy : Meaning → (before after : ℕ) → List Interval → Type 0
IsFoundBy m before after table =
    (units : List ℕ) × IsRun m units (replicate (length m.widest) Empty) table × (after ≡ before + length units)

-- each entry holds what every unit gives for it under this very table
pub record IsClosed (m : Meaning) (table : List Interval) : Type 0 where
  pub is_table : IsTable m table
  pub holds : (unit : ℕ) → unit < m.units → (entry : ℕ) → entry < length m.widest
      → IsWithin (m.gives unit table entry) (at table entry)

-- closed, and within each closed table
pub record IsLeast (m : Meaning) (table : List Interval) : Type 0 where
  pub closed : IsClosed m table
  pub least : (other : List Interval) → IsClosed m other → AreWithin table other

-- how many numbers of the grid the interval holds
abbrev pub numbers_in : List ℤ → Interval → ℕ
numbers_in grid i = length (filter (holds i) grid)

-- how many numbers of the grid the entries of a table hold, in all
abbrev pub weight : List ℤ → List Interval → ℕ
weight grid table = sum_by (numbers_in grid) table

-- the units that read an entry
abbrev pub readers_of : Meaning → ℕ → List ℕ
readers_of m entry = filter (λ unit. m.reads unit entry) (range_with_len 0 m.units)

-- how often units may read a raised entry: for each entry, the grid numbers that it holds times the units
-- that read it, in all
abbrev pub readings : Meaning → List Interval → ℕ
readings m table =
    sum_by (λ entry. numbers_in m.grid (at table entry) * length (readers_of m entry))
    (range_with_len 0 (length m.widest))
