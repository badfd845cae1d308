-- Intervals of whole numbers: the closed intervals of interval analysis, with one that is empty. The code
-- holds two bounds of 128 bits, with 1 and 0 for the empty one; here bounds have no limit.
use Rattle.std.specs.Prelude.{Bool, true, false, ◌&&◌, if◌then◌else◌, ℤ, pos, ◌≤ℤ◌, int_le}
use Rattle.std.specs.Int.{int_max, int_min}

-- the empty interval, or all numbers from the low bound to the high one
pub data Interval : Type 0 where
  Empty : Interval
  Span : (low high : ℤ) → Interval

-- the number lies in the interval
abbrev pub Holds : Interval → ℤ → Type 0
Holds Empty v = ⊥
Holds (Span low high) v = (low ≤ℤ v) × (v ≤ℤ high)

-- the same, as a test
abbrev pub holds : Interval → ℤ → Bool
holds Empty v = false
holds (Span low high) v = int_le low v && int_le v high

-- the low bound is at most the high one
abbrev pub IsOrdered : Interval → Type 0
IsOrdered Empty = Unit {0}
IsOrdered (Span low high) = low ≤ℤ high

-- the first interval lies within the second
abbrev pub IsWithin : Interval → Interval → Type 0
IsWithin Empty j = Unit {0}
IsWithin (Span a b) Empty = ⊥
IsWithin (Span a b) (Span c d) = (c ≤ℤ a) × (b ≤ℤ d)

-- the same, as a test
abbrev pub is_within : Interval → Interval → Bool
is_within Empty j = true
is_within (Span a b) Empty = false
is_within (Span a b) (Span c d) = int_le c a && int_le b d

abbrev pub is_empty : Interval → Bool
is_empty Empty = true
is_empty (Span a b) = false

-- from one bound to the other, or empty where the first is above the second
abbrev pub span : ℤ → ℤ → Interval
span a b = if int_le a b then Span a b else Empty

-- the join: the least interval that holds what either holds
abbrev pub hull : Interval → Interval → Interval
hull Empty j = j
hull (Span a b) Empty = Span a b
hull (Span a b) (Span c d) = Span (int_min a c) (int_max b d)

-- ---- what an operator gives for bounds as one on intervals: empty where an operand is

abbrev pub strict_one : ((a b : ℤ) → Interval) → Interval → Interval
strict_one at Empty = Empty
strict_one at (Span a b) = at a b

abbrev pub strict : ((a b c d : ℤ) → Interval) → Interval → Interval → Interval
strict at Empty j = Empty
strict at (Span a b) Empty = Empty
strict at (Span a b) (Span c d) = at a b c d

-- what both hold
abbrev pub meet_at : (a b c d : ℤ) → Interval
meet_at a b c d = span (int_max a c) (int_min b d)

abbrev pub meet : Interval → Interval → Interval
meet i j = strict meet_at i j

-- ---- bounds

-- the bounds, of which the empty interval has 1 and 0
abbrev pub low_of : Interval → ℤ
low_of Empty = pos 1
low_of (Span a b) = a

abbrev pub high_of : Interval → ℤ
high_of Empty = pos 0
high_of (Span a b) = b
