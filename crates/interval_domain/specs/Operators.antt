-- Operators on intervals, after interval analysis: the raw result is the least interval of all whole-number
-- results, the result its meet with the range of the type. The code computes in 128 bits; here numbers have
-- no limit.
use Rattle.std.specs.Prelude.{◌-◌, ◌^◌, Bool, not, ℤ, pos, ◌+ℤ◌, ◌-ℤ◌, neg_ℤ}
use Rattle.std.specs.Int.{int_max, int_min}
use Rattle.iec_tables.specs.Types as types
use Rattle.iec_tables.specs.declared.elem.Elem.{Elem}
use Rattle.iec_tables.specs.declared.kind.Kind.{Kind}
use Rattle.iec_tables.specs.declared.kind.Kind.TheVariants.{ZeroDivisor, Index, Subrange, Overflow}
use Rattle.interval_domain.specs.Interval.{Interval, Span, holds, is_within, strict, meet}

-- A size past 2^127 - 1 is kept at 2^127 - 1, with the sign. This profile's limit of bounds.
abbrev pub kept : ℤ → ℤ
kept z = int_max (neg_ℤ (pos (2 ^ 127 - 1))) (int_min (pos (2 ^ 127 - 1)) z)

-- the range of a type
abbrev pub range_of : Elem → Interval
range_of t = Span (types.low_of t) (types.high_of t)

-- the whole-number operators
abbrev pub sum_of : ℤ → ℤ → ℤ
sum_of x y = x +ℤ y

abbrev pub difference_of : ℤ → ℤ → ℤ
difference_of x y = x -ℤ y

-- [a, b] + [c, d] is [a + c, b + d]
abbrev pub add_at : (a b c d : ℤ) → Interval
add_at a b c d = Span (kept (sum_of a c)) (kept (sum_of b d))

abbrev pub add_raw : Interval → Interval → Interval
add_raw i j = strict add_at i j

-- [a, b] - [c, d] is [a - d, b - c]
abbrev pub sub_at : (a b c d : ℤ) → Interval
sub_at a b c d = Span (kept (difference_of a d)) (kept (difference_of b c))

abbrev pub sub_raw : Interval → Interval → Interval
sub_raw i j = strict sub_at i j

-- the raw result met with the range of the type
abbrev pub typed : Elem → Interval → Interval
typed t raw = meet raw (range_of t)

-- ---- alarms

-- A division is alarmed where its divisor may be 0, anything else where the value may leave what is allowed.
abbrev pub is_alarmed : Kind → Interval → Interval → Bool
is_alarmed ZeroDivisor value allowed = holds value (pos 0)
is_alarmed Index value allowed = not (is_within value allowed)
is_alarmed Subrange value allowed = not (is_within value allowed)
is_alarmed Overflow value allowed = not (is_within value allowed)
