-- The grid to whose numbers bounds are rounded. This profile's own. The code searches a rising list by
-- halves, and sorts ranks; here numbers are filtered, and sorted lists are told by their members.
use Rattle.std.specs.Prelude.{◌≡◌, ℕ, ◌+◌, ◌*◌, ◌/◌, ◌%◌, Bool, not, nat_eq, if◌then◌else◌, List, [], ◌∷◌, ◌++◌, map, take, ℤ, pos, negsuc, int_le, ◌||◌}
use Rattle.std.specs.List.{filter, flat_map, list_any, Contains}
use Rattle.std.specs.Ordering.{nat_cmp, int_cmp, int_eq}
use Rattle.std.specs.List.Sorted.{IsStrictlySortedBy}
use Rattle.std.specs.declared.cmp.Ordering.{Ordering}
use Rattle.iec_tables.specs.Types as types
use Rattle.iec_tables.specs.declared.elem.Elem.{Elem}
use Rattle.iec_tables.specs.declared.elem.Elem.TheVariants.{Sint, Int, Dint, Lint, Usint, Uint, Udint, Ulint, Bool as Truth, Byte, Word, Dword, Lword, Time}
use Rattle.interval_domain.specs.Interval.{Interval, Empty, Span, IsWithin, hull}
use Rattle.interval_domain.specs.Operators.{kept, sum_of, difference_of}

-- ---- rounding: each bound is moved outward to the grid, which is a rising list

abbrev pub first_or : ℤ → List ℤ → ℤ
first_or z [] = z
first_or z (x ∷ xs) = x

abbrev pub last_or : ℤ → List ℤ → ℤ
last_or z [] = z
last_or z (x ∷ xs) = last_or x xs

-- the last number of the grid that is at most z, or z where there is none
abbrev pub floor_in : List ℤ → ℤ → ℤ
floor_in grid z = last_or z (filter (λ n. int_le n z) grid)

-- the first number of the grid that is at least z, or z where there is none
abbrev pub ceiling_in : List ℤ → ℤ → ℤ
ceiling_in grid z = first_or z (filter (λ n. int_le z n) grid)

-- the empty interval stays empty
abbrev pub rounded : List ℤ → Interval → Interval
rounded grid Empty = Empty
rounded grid (Span a b) = Span (floor_in grid a) (ceiling_in grid b)

-- it is empty, or both bounds are numbers of the grid
abbrev pub IsOnGrid : List ℤ → Interval → Type 0
IsOnGrid grid Empty = Unit {0}
IsOnGrid grid (Span low high) = Contains grid low × Contains grid high

-- the numbers of all types: from the least of LINT to the greatest of ULINT
abbrev pub all_numbers : Interval
all_numbers = Span (types.low_of Lint) (types.high_of Ulint)

-- a list to round to: it rises, and both ends of the numbers of all types are in it
pub record IsRounder (grid : List ℤ) : Type 0 where
  pub rising : IsStrictlySortedBy int_cmp grid
  pub outermost : IsOnGrid grid all_numbers

-- no smaller interval on the grid holds what is rounded
abbrev pub IsLeastOnGrid : List ℤ → Interval → Interval → Type 0
IsLeastOnGrid grid i out = (j : Interval) → IsOnGrid grid j → IsWithin i j → IsWithin out j

-- the rounding of a hull is the hull of the roundings
abbrev pub GivesHulls : List ℤ → Interval → Interval → Type 0
GivesHulls grid i out = (j : Interval) → rounded grid (hull i j) ≡ hull out (rounded grid j)

-- a larger interval is rounded to no smaller one
abbrev pub GrowsFrom : List ℤ → Interval → Interval → Type 0
GrowsFrom grid i out = (j : Interval) → IsWithin i j → IsWithin out (rounded grid j)

-- ---- the numbers of the grid

abbrev pub all_types : List Elem
all_types = Sint ∷ Int ∷ Dint ∷ Lint ∷ Usint ∷ Uint ∷ Udint ∷ Ulint ∷ Truth ∷ Byte ∷ Word ∷ Dword ∷ Lword ∷ Time ∷ []

-- the least and the greatest number of each type
abbrev pub bounds_of : Elem → List ℤ
bounds_of t = types.low_of t ∷ types.high_of t ∷ []

abbrev pub type_bounds : List ℤ
type_bounds = flat_map bounds_of all_types

abbrev pub is_bound_of : ℤ → Elem → Bool
is_bound_of z t = int_eq (types.low_of t) z || int_eq (types.high_of t) z

-- a literal and its two neighbours, in the limit of bounds
abbrev pub neighbours : ℤ → List ℤ
neighbours z = kept (difference_of z (pos 1)) ∷ kept z ∷ kept (sum_of z (pos 1)) ∷ []

-- -1, and each literal with its neighbours
abbrev pub candidates : List ℤ → List ℤ
candidates literals = negsuc 0 ∷ flat_map neighbours literals

-- Numbers are ranked by size, of two of one size the negative first: 0, -1, 1, -2, 2 and so on.
abbrev pub rank_of : ℤ → ℕ
rank_of (pos n) = 2 * n
rank_of (negsuc n) = 2 * n + 1

abbrev pub number_of : ℕ → ℤ
number_of rank = if nat_eq (rank % 2) 0 then pos (rank / 2) else negsuc (rank / 2)

-- the ranks of those numbers that are no bound of a type
abbrev pub ranks_of : List ℤ → List ℕ
ranks_of numbers = map rank_of (filter (λ z. not (list_any (is_bound_of z) all_types)) numbers)

-- ys has each number of xs once, rising by the comparison. There is one such list.
pub record IsSetOf {X : Type 0} (cmp : X → X → Ordering) (xs ys : List X) : Type 0 where
  pub rising : IsStrictlySortedBy cmp ys
  pub all : (x : X) → Contains xs x → Contains ys x
  pub no_other : (x : X) → Contains ys x → Contains xs x

-- the first 1,024 ranks of the candidates
abbrev pub AreFirstRanks : List ℤ → List ℕ → Type 0
AreFirstRanks literals first =
    (ranks : List ℕ) × IsSetOf nat_cmp (ranks_of (candidates literals)) ranks × (first ≡ take 1024 ranks)

-- The grid has, rising, the bounds of types and the numbers of those ranks.
abbrev pub IsGrid : List ℤ → List ℤ → Type 0
IsGrid literals grid =
    (first : List ℕ) × AreFirstRanks literals first × IsSetOf int_cmp (type_bounds ++ map number_of first) grid
