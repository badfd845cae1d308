-- The operators on bit strings, BOOL among them, which are read as unsigned numbers. Source: IEC 61131-3,
-- bitwise Boolean functions; the intervals are this profile's choice. The code works on machine words; here
-- patterns are numbers of any size. An operand is cut to the patterns of the type first: of a bit string's
-- range nothing is lost by that.
use Rattle.std.specs.Prelude.{◌≡◌, ℕ, zero, suc, ◌-◌, ◌/◌, ◌^◌, ◌&&◌, nat_eq, if◌then◌else◌, ℤ, pos, ◌-ℤ◌, ◌≤ℤ◌, bit_and, bit_or, bit_xor, unsigned_abs}
use Rattle.std.specs.Int.{int_max, int_min}
use Rattle.std.specs.Ordering.{int_eq}
use Rattle.iec_tables.specs.declared.elem.Elem.{Elem}
use Rattle.iec_tables.specs.Types.{width_of}
use Rattle.interval_domain.specs.Interval.{Interval, Span, span, strict_one, strict, meet}

-- the number whose bits are all 1
abbrev pub all_ones : Elem → ℤ
all_ones t = pos (2 ^ width_of t - 1)

-- the patterns of that many bits
abbrev pub patterns : ℕ → Interval
patterns width = Span (pos 0) (pos (2 ^ width - 1))

-- the patterns of a type: the range of a bit string
abbrev pub bits_range : Elem → Interval
bits_range t = patterns (width_of t)

-- what of an interval is patterns of that many bits
abbrev pub patterns_in : ℕ → Interval → Interval
patterns_in width i = meet i (patterns width)

-- the patterns of the widest type
abbrev pub words : Interval
words = patterns 64

-- ---- on numbers, bit by bit

abbrev pub and_of : ℤ → ℤ → ℤ
and_of x y = pos (bit_and (unsigned_abs x) (unsigned_abs y))

abbrev pub or_of : ℤ → ℤ → ℤ
or_of x y = pos (bit_or (unsigned_abs x) (unsigned_abs y))

abbrev pub xor_of : ℤ → ℤ → ℤ
xor_of x y = pos (bit_xor (unsigned_abs x) (unsigned_abs y))

-- NOT: each bit turned round
abbrev pub not_of : Elem → ℤ → ℤ
not_of t x = all_ones t -ℤ x

-- ---- on intervals

-- one number where both operands are single, else another interval
abbrev pub exact_or : (a b c d exact : ℤ) → Interval → Interval
exact_or a b c d exact other = if int_eq a b && int_eq c d then Span exact exact else other

-- the row of every operator on patterns: exact where both operands are single, else what another function
-- gives for their bounds
abbrev pub pattern_at : (op : ℤ → ℤ → ℤ) → (other : (a b c d : ℤ) → Interval) → (a b c d : ℤ) → Interval
pattern_at op other a b c d = exact_or a b c d (op a c) (other a b c d)

abbrev pub pattern_row : (op : ℤ → ℤ → ℤ) → (other : (a b c d : ℤ) → Interval) → Interval → Interval → Interval
pattern_row op other i j = strict (pattern_at op other) i j

-- how many binary digits n has, of at most `most`
unfoldable pub digits : (most : ℕ) → ℕ → ℕ
digits zero n = 0
digits (suc most) n = if nat_eq n 0 then 0 else suc (digits most (n / 2))

-- the least 2^k - 1 that is not below the number, which is below 2^128
abbrev pub ones_above : ℤ → ℤ
ones_above z = pos (2 ^ digits 128 (unsigned_abs z) - 1)

-- r is some 2^k - 1 that is not below z, and no lesser one is
pub record IsOnesAbove (z r : ℤ) : Type 0 where
  pub ones : (k : ℕ) × (r ≡ pos (2 ^ k - 1))
  pub above : z ≤ℤ r
  pub least : (k : ℕ) → z ≤ℤ pos (2 ^ k - 1) → r ≤ℤ pos (2 ^ k - 1)

-- AND: up to the lesser upper bound
abbrev pub and_other : (a b c d : ℤ) → Interval
and_other a b c d = span (pos 0) (int_min b d)

-- OR: from the greater lower bound to the ones above the greater upper bound
abbrev pub or_other : (a b c d : ℤ) → Interval
or_other a b c d = span (int_max a c) (ones_above (int_max b d))

-- XOR: up to the same
abbrev pub xor_other : (a b c d : ℤ) → Interval
xor_other a b c d = span (pos 0) (ones_above (int_max b d))

abbrev pub and_row : Interval → Interval → Interval
and_row i j = pattern_row and_of and_other i j

abbrev pub or_row : Interval → Interval → Interval
or_row i j = pattern_row or_of or_other i j

abbrev pub xor_row : Interval → Interval → Interval
xor_row i j = pattern_row xor_of xor_other i j

-- each number taken from the greatest
abbrev pub mirrored_at : (greatest : ℤ) → (a b : ℤ) → Interval
mirrored_at greatest a b = Span (greatest -ℤ b) (greatest -ℤ a)

abbrev pub mirrored : (greatest : ℤ) → Interval → Interval
mirrored greatest i = strict_one (mirrored_at greatest) i

abbrev pub not_row : Elem → Interval → Interval
not_row t i = mirrored (all_ones t) i

-- ---- the rows over what is patterns of the type in the operands

abbrev pub cut_row : (Interval → Interval → Interval) → Elem → Interval → Interval → Interval
cut_row row t i j = row (patterns_in (width_of t) i) (patterns_in (width_of t) j)

abbrev pub cut_not_row : Elem → Interval → Interval
cut_not_row t i = not_row t (patterns_in (width_of t) i)
