-- The operators that choose among numbers, and conversions. Source: IEC 61131-3, selection functions and
-- type conversions; a conversion keeps the number, and a run faults where the type that it converts to
-- doesn't have it.
use Rattle.std.specs.Prelude.{Bool, not, ◌||◌, if◌then◌else◌, ℤ, pos}
use Rattle.std.specs.Int.{int_max, int_min}
use Rattle.std.specs.Ordering.{int_eq}
use Rattle.interval_domain.specs.Interval.{Interval, Empty, Span, holds, is_within, is_empty, strict, hull}

-- ---- on numbers

abbrev pub least_of : ℤ → ℤ → ℤ
least_of x y = int_min x y

abbrev pub greatest_of : ℤ → ℤ → ℤ
greatest_of x y = int_max x y

-- LIMIT(MN, IN, MX) is MIN(MAX(IN, MN), MX)
abbrev pub limited : (mn x mx : ℤ) → ℤ
limited mn x mx = least_of (greatest_of x mn) mx

-- SEL(G, IN0, IN1): the first where G is FALSE, which is 0, else the second
abbrev pub chosen : (g x y : ℤ) → ℤ
chosen g x y = if int_eq g (pos 0) then x else y

-- ---- on intervals: bound by bound

abbrev pub min_at : (a b c d : ℤ) → Interval
min_at a b c d = Span (int_min a c) (int_min b d)

abbrev pub min_row : Interval → Interval → Interval
min_row i j = strict min_at i j

abbrev pub max_at : (a b c d : ℤ) → Interval
max_at a b c d = Span (int_max a c) (int_max b d)

abbrev pub max_row : Interval → Interval → Interval
max_row i j = strict max_at i j

abbrev pub limit_row : (mn a mx : Interval) → Interval
limit_row mn a mx = min_row (max_row a mn) mx

-- the interval where the test holds, else empty
abbrev pub given : Bool → Interval → Interval
given test i = if test then i else Empty

-- SEL: the chosen ones joined, or empty where an operand is. The first may be chosen where G may be 0, the
-- second where G may be something else.
abbrev pub sel_row : (g in0 in1 : Interval) → Interval
sel_row g in0 in1 =
    given (not (is_empty g || is_empty in0 || is_empty in1))
    (hull (given (holds g (pos 0)) in0) (given (not (is_within g (Span (pos 0) (pos 0)))) in1))
