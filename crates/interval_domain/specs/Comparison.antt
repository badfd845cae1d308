-- Comparisons of intervals, and what an interval is cut to where a comparison is assumed true. Source: IEC
-- 61131-3, comparison functions; the cuts are those of interval analysis.
use Rattle.std.specs.Prelude.{◌≡◌, Bool, true, false, not, IsTrue, ◌&&◌, ◌||◌, if◌then◌else◌, ℤ, pos, ◌+ℤ◌, ◌-ℤ◌, int_le, int_lt}
use Rattle.std.specs.Int.{int_max, int_min}
use Rattle.std.specs.Ordering.{int_eq}
use Rattle.interval_domain.specs.declared.relation.Compare.{Compare}
use Rattle.interval_domain.specs.declared.relation.Compare.TheVariants.{Less, LessEqual, Greater, GreaterEqual, Equal, NotEqual}
use Rattle.interval_domain.specs.declared.relation.Flags.{Flags}
use Rattle.interval_domain.specs.Interval.{Interval, Empty, Span, Holds, IsWithin, span, strict}

-- ---- on numbers

abbrev pub test_of : Compare → ℤ → ℤ → Bool
test_of Less x y = int_lt x y
test_of LessEqual x y = int_le x y
test_of Greater x y = int_lt y x
test_of GreaterEqual x y = int_le y x
test_of Equal x y = int_eq x y
test_of NotEqual x y = not (int_eq x y)

-- the comparison that is true where this one is false
abbrev pub opposite : Compare → Compare
opposite Less = GreaterEqual
opposite LessEqual = Greater
opposite Greater = LessEqual
opposite GreaterEqual = Less
opposite Equal = NotEqual
opposite NotEqual = Equal

-- ---- the truth values that occur

-- some two numbers of the intervals give that truth value
abbrev pub Occurs : Compare → Interval → Interval → Bool → Type 0
Occurs op i j value = (x : ℤ) × (y : ℤ) × Holds i x × Holds j y × (test_of op x y ≡ value)

-- the same for "true", by the bounds
abbrev pub bounds_allow : Compare → (a b c d : ℤ) → Bool
bounds_allow Less a b c d = int_lt a d
bounds_allow LessEqual a b c d = int_le a d
bounds_allow Greater a b c d = int_lt c b
bounds_allow GreaterEqual a b c d = int_le c b
bounds_allow Equal a b c d = int_le a d && int_le c b
bounds_allow NotEqual a b c d = int_lt a d || int_lt c b

abbrev pub may_hold : Compare → Interval → Interval → Bool
may_hold op Empty j = false
may_hold op (Span a b) Empty = false
may_hold op (Span a b) (Span c d) = bounds_allow op a b c d

abbrev pub flags_of : Compare → Interval → Interval → Flags
flags_of op i j = record { yes = may_hold op i j; no = may_hold (opposite op) i j }

-- each truth value of the first occurs in the second
abbrev pub AreWithin : Flags → Flags → Type 0
AreWithin f g = (IsTrue f.yes → IsTrue g.yes) × (IsTrue f.no → IsTrue g.no)

-- ---- cuts: what is left of [a, b] where the comparison with [c, d] is assumed true. `<>` drops an end
-- that equals the other side where that is one number.

-- without a number that is an end
abbrev pub without : (a b number : ℤ) → Interval
without a b number = span (if int_eq a number then a +ℤ pos 1 else a) (if int_eq b number then b -ℤ pos 1 else b)

abbrev pub cut_bounds : Compare → (a b c d : ℤ) → Interval
cut_bounds Less a b c d = span a (int_min b (d -ℤ pos 1))
cut_bounds LessEqual a b c d = span a (int_min b d)
cut_bounds Greater a b c d = span (int_max a (c +ℤ pos 1)) b
cut_bounds GreaterEqual a b c d = span (int_max a c) b
cut_bounds Equal a b c d = span (int_max a c) (int_min b d)
cut_bounds NotEqual a b c d = if int_eq c d then without a b c else span a b

abbrev pub cut_row : Compare → Interval → Interval → Interval
cut_row op i j = strict (cut_bounds op) i j

-- the laws: no number for which the comparison may be true is lost, nothing is added, larger sides give no
-- smaller interval
pub record MeetsCutLaws (op : Compare) (own other out : Interval) : Type 0 where
  pub held : (x y : ℤ) → Holds own x → Holds other y → test_of op x y ≡ true → Holds out x
  pub within : IsWithin out own
  pub larger : (i j : Interval) → IsWithin own i → IsWithin other j → IsWithin out (cut_row op i j)
