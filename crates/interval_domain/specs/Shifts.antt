-- Shifts and rotations of bit strings, which are read as unsigned numbers of `width` bits. A negative count
-- is 0. Source: IEC 61131-3, bit shift functions; the intervals are this profile's choice. The code works
-- on machine words; here patterns are numbers of any size. The first operand is cut to the patterns of the
-- type first: of a bit string's range nothing is lost by that.
use Rattle.std.specs.Prelude.{ℕ, min, ◌+◌, ◌-◌, ◌*◌, ◌/◌, ◌%◌, ◌^◌, ℤ, pos, negsuc, unsigned_abs}
use Rattle.interval_domain.specs.Interval.{Interval, span, strict}
use Rattle.interval_domain.specs.Bits.{patterns, patterns_in, pattern_row}

-- ---- on numbers

-- the count moved into 0 to the width
abbrev pub moved : (width : ℕ) → ℤ → ℕ
moved width (pos n) = min n width
moved width (negsuc n) = 0

-- Bits that leave the word are lost, and zeros come in: so a count of the width or more gives 0.
abbrev pub shl_of : (width : ℕ) → ℤ → ℤ → ℤ
shl_of width x n = pos (unsigned_abs x * 2 ^ moved width n % 2 ^ width)

abbrev pub shr_of : (width : ℕ) → ℤ → ℤ → ℤ
shr_of width x n = pos (unsigned_abs x / 2 ^ moved width n)

-- the count modulo the width
abbrev pub turns : (width : ℕ) → ℤ → ℕ
turns width (pos n) = n % width
turns width (negsuc n) = 0

-- the two parts of a word changed over: the lowest `place` bits, and those above
abbrev pub turned : (width : ℕ) → ℕ → (place : ℕ) → ℕ
turned width x place = (x % 2 ^ place) * 2 ^ (width - place) + x / 2 ^ place

abbrev pub rol_of : (width : ℕ) → ℤ → ℤ → ℤ
rol_of width x n = pos (turned width (unsigned_abs x) (width - turns width n))

abbrev pub ror_of : (width : ℕ) → ℤ → ℤ → ℤ
ror_of width x n = pos (turned width (unsigned_abs x) (turns width n))

-- ---- on intervals

-- the low bound by the greatest count, the high bound by the least
abbrev pub shr_at : (width : ℕ) → (a b c d : ℤ) → Interval
shr_at width a b c d = span (shr_of width a d) (shr_of width b c)

abbrev pub shr_row : (width : ℕ) → Interval → Interval → Interval
shr_row width i j = strict (shr_at width) i j

-- exact where both operands are single, else any pattern
abbrev pub any_pattern : (width : ℕ) → (a b c d : ℤ) → Interval
any_pattern width a b c d = patterns width

abbrev pub moved_row : (ℕ → ℤ → ℤ → ℤ) → (width : ℕ) → Interval → Interval → Interval
moved_row op width i j = pattern_row (op width) (any_pattern width) i j

abbrev pub shl_row : (width : ℕ) → Interval → Interval → Interval
shl_row width i j = moved_row shl_of width i j

abbrev pub rol_row : (width : ℕ) → Interval → Interval → Interval
rol_row width i j = moved_row rol_of width i j

abbrev pub ror_row : (width : ℕ) → Interval → Interval → Interval
ror_row width i j = moved_row ror_of width i j

-- ---- the rows over what is patterns of the type in the first operand

abbrev pub cut_row : (ℕ → Interval → Interval → Interval) → (width : ℕ) → Interval → Interval → Interval
cut_row row width i j = row width (patterns_in width i) j
