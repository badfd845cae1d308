-- The arithmetic operators: on numbers, as a run computes them, and on intervals. A run faults where a
-- divisor is 0 and where a result of `+ - * /`, unary `-` or ABS leaves the type. Source: IEC 61131-3,
-- arithmetic operators and functions; `/` truncates towards 0. The code computes in 128 bits; here numbers
-- have no limit.
use Rattle.std.specs.Prelude.{◌≡◌, ℕ, max, nat_eq, if◌then◌else◌, ℤ, pos, negsuc, ◌-ℤ◌, ◌*ℤ◌, neg_ℤ, int_lt, unsigned_abs, int_div}
use Rattle.std.specs.Int.{int_max, int_min}
use Rattle.interval_domain.specs.Interval.{Interval, Empty, Span, span, strict_one, strict, hull}
use Rattle.interval_domain.specs.Operators.{kept}

-- ---- on numbers

abbrev pub product_of : ℤ → ℤ → ℤ
product_of x y = x *ℤ y

-- the quotient, truncated towards 0; a divisor of 0 is a fault
abbrev pub quotient_of : ℤ → ℤ → ℤ
quotient_of x y = int_div x y

-- MOD: what the truncated quotient leaves; a divisor of 0 is a fault
abbrev pub remainder_of : ℤ → ℤ → ℤ
remainder_of x y = x -ℤ (int_div x y *ℤ y)

abbrev pub negation_of : ℤ → ℤ
negation_of x = neg_ℤ x

-- ABS
abbrev pub size_of : ℤ → ℤ
size_of x = pos (unsigned_abs x)

-- any number but 0
abbrev pub IsDivisor : ℤ → Type 0
IsDivisor y = ¬ (y ≡ pos 0)

-- ---- on intervals: the raw results, of which a typed result is the part in the range of the type

-- the least interval that holds four numbers
abbrev pub hull_of : (p q r s : ℤ) → Interval
hull_of p q r s = Span (int_min (int_min p q) (int_min r s)) (int_max (int_max p q) (int_max r s))

-- [a, b] * [c, d] spans the products of bounds
abbrev pub mul_at : (a b c d : ℤ) → Interval
mul_at a b c d =
    hull_of (kept (product_of a c)) (kept (product_of a d)) (kept (product_of b c)) (kept (product_of b d))

abbrev pub mul_raw : Interval → Interval → Interval
mul_raw i j = strict mul_at i j

-- the part below 0, and the part above
abbrev pub below_zero : Interval → Interval
below_zero i = strict_one (λ c d. span c (int_min d (negsuc 0))) i

abbrev pub above_zero : Interval → Interval
above_zero i = strict_one (λ c d. span (int_max c (pos 1)) d) i

-- by divisors of one sign: what the quotients of bounds span
abbrev pub quotients_at : (a b c d : ℤ) → Interval
quotients_at a b c d =
    hull_of (kept (quotient_of a c)) (kept (quotient_of a d)) (kept (quotient_of b c)) (kept (quotient_of b d))

abbrev pub quotients : Interval → Interval → Interval
quotients i j = strict quotients_at i j

-- the quotients by the negative divisors and by the positive ones, joined
abbrev pub div_raw : Interval → Interval → Interval
div_raw i j = hull (quotients i (below_zero j)) (quotients i (above_zero j))

-- - [a, b] is [-b, -a]
abbrev pub neg_at : (a b : ℤ) → Interval
neg_at a b = Span (kept (negation_of b)) (kept (negation_of a))

abbrev pub neg_raw : Interval → Interval
neg_raw i = strict_one neg_at i

-- ABS: from the lower bound, the upper one turned round or 0, whichever is greatest
abbrev pub least_size : (a b : ℤ) → ℤ
least_size a b = int_max (pos 0) (int_max a (neg_ℤ b))

-- to the lower bound turned round or the upper one, whichever is greater
abbrev pub greatest_size : (a b : ℤ) → ℤ
greatest_size a b = int_max (neg_ℤ a) b

abbrev pub abs_at : (a b : ℤ) → Interval
abs_at a b = Span (kept (least_size a b)) (kept (greatest_size a b))

abbrev pub abs_raw : Interval → Interval
abs_raw i = strict_one abs_at i

-- ---- MOD has no raw result of its own

-- where m is the greatest size of a divisor: from 0, or the greater of a and 1 - m where a is below 0
abbrev pub least_remainder : ℤ → ℕ → ℤ
least_remainder a m = if int_lt a (pos 0) then int_max a (pos 1 -ℤ pos m) else pos 0

-- to 0, or the less of b and m - 1 where b is above 0
abbrev pub greatest_remainder : ℤ → ℕ → ℤ
greatest_remainder b m = if int_lt (pos 0) b then int_min b (pos m -ℤ pos 1) else pos 0

abbrev pub remainders : (a b : ℤ) → ℕ → Interval
remainders a b m = if nat_eq m 0 then Empty else span (least_remainder a m) (greatest_remainder b m)

-- empty where 0 is the only divisor
abbrev pub modulo_at : (a b c d : ℤ) → Interval
modulo_at a b c d = remainders a b (max (unsigned_abs c) (unsigned_abs d))

abbrev pub modulo_row : Interval → Interval → Interval
modulo_row i j = strict modulo_at i j
