-- The three laws of operators on patterns, whose operands are cut to patterns.
use Rattle.std.proofs.Common.{◌≡◌, ℕ, ℤ, true}
use Rattle.iec_tables.specs.declared.elem.Elem.{Elem}
use Rattle.iec_tables.specs.Types.{width_of}
use Rattle.interval_domain.specs.Interval.{Interval, Holds, IsOrdered}
use Rattle.interval_domain.specs.Bits.{patterns, patterns_in, bits_range, pattern_row, cut_row}
use Rattle.interval_domain.specs.Shifts.{any_pattern, moved_row, cut_row as cut_first}
use Rattle.interval_domain.specs.Laws.{of_two, any, same, with_two, IsSound, IsBest, IsMonotone}
use Rattle.interval_domain.proofs.Between.{meet-right, meet-ordered, holds-within}
use Rattle.interval_domain.proofs.Laws.{meet-within}
use Rattle.interval_domain.proofs.PatternRow.{IsPatternOperator, AreAll, pattern-held, pattern-grows}
use Rattle.interval_domain.proofs.Patterns.{IsPattern, cut-patterns}
use Rattle.interval_domain.proofs.Shapes.{sound-plain, best, whole-grows, grows-two}
use Rattle.interval_domain.proofs.Truths.{table, cut-least}

-- ---- both operands are cut

module _ (op : ℤ → ℤ → ℤ) (other : (a b c d : ℤ) → Interval) (t : Elem) (i j raw out : Interval)
    (e : raw ≡ cut_row (pattern_row op other) t i j) (f : out ≡ cut_row (pattern_row op other) t i j) where
  pub bits-sound : IsPatternOperator IsPattern IsPattern op other
      → IsSound (of_two op (patterns_in (width_of t) i) (patterns_in (width_of t) j)) same any raw out
  bits-sound is =
      sound-plain _ _ raw out e f
      (pattern-held IsPattern IsPattern op other is (patterns_in (width_of t) i) (patterns_in (width_of t) j)
      (cut-patterns t i) (cut-patterns t j))

  pub bits-best : table op other ≡ true → width_of t ≡ 1
      → IsBest (of_two op (patterns_in (width_of t) i) (patterns_in (width_of t) j)) same raw
  bits-best h one = best _ same _ raw e (cut-least op other h t i j one)

  pub bits-monotone : IsPatternOperator IsPattern IsPattern op other
      → IsMonotone (with_two (cut_row (pattern_row op other) t) (cut_row (pattern_row op other) t) i j) raw out
  bits-monotone is =
      grows-two (cut_row (pattern_row op other) t) (λ i. i) whole-grows i j raw out e f
      (λ k l h m. pattern-grows IsPattern IsPattern op other is (patterns_in (width_of t) i)
      (patterns_in (width_of t) j)
      (patterns_in (width_of t) k) (patterns_in (width_of t) l) (meet-ordered i (bits_range t))
      (meet-ordered j (bits_range t))
      (cut-patterns t i) (cut-patterns t j) (meet-within i k (bits_range t) h) (meet-within j l (bits_range t) m))

-- ---- the first operand is cut

first-patterns : (w : ℕ) (i : Interval) → AreAll (Holds (patterns w)) (patterns_in w i)
first-patterns w i x h = holds-within (patterns_in w i) (patterns w) x (meet-right i (patterns w)) h

module _ (op : ℕ → ℤ → ℤ → ℤ) (w : ℕ) (is : IsPatternOperator (Holds (patterns w)) any (op w) (any_pattern w))
    (i j raw out : Interval)
    (e : raw ≡ cut_first (moved_row op) w i j) (f : out ≡ cut_first (moved_row op) w i j) where
  pub moved-sound : IsSound (of_two (op w) (patterns_in w i) j) same any raw out
  moved-sound =
      sound-plain _ _ raw out e f
      (pattern-held (Holds (patterns w)) any (op w) (any_pattern w) is (patterns_in w i) j (first-patterns w i)
      (λ y h. tt))

  pub moved-monotone : IsOrdered j
      → IsMonotone (with_two (cut_first (moved_row op) w) (cut_first (moved_row op) w) i j) raw out
  moved-monotone o =
      grows-two (cut_first (moved_row op) w) (λ i. i) whole-grows i j raw out e f
      (λ k l h m. pattern-grows (Holds (patterns w)) any (op w) (any_pattern w) is (patterns_in w i) j
      (patterns_in w k) l
      (meet-ordered i (patterns w)) o (first-patterns w i) (λ y h. tt) (meet-within i k (patterns w) h) m)
