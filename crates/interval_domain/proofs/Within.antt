-- Intervals that lie within one another, and their hulls.
use Rattle.std.proofs.Common.{arith}
use Rattle.std.proofs.lemmas.Int.{ints, clamps}
use Rattle.interval_domain.specs.Interval.{Interval, Empty, Span, IsWithin, hull}

pub within_refl : (i : Interval) → IsWithin i i
within_refl Empty = tt
within_refl (Span a b) = (omega (arith, ints), omega (arith, ints))

pub within_trans : (i j k : Interval) → IsWithin i j → IsWithin j k → IsWithin i k
within_trans Empty j k p q = tt
within_trans (Span a b) Empty k p q = absurd p
within_trans (Span a b) (Span c d) Empty p q = q
within_trans (Span a b) (Span c d) (Span e f) p q = (omega (arith, ints), omega (arith, ints))

pub within_hull_left : (i j : Interval) → IsWithin i (hull i j)
within_hull_left Empty j = tt
within_hull_left (Span a b) Empty = (omega (arith, ints), omega (arith, ints))
within_hull_left (Span a b) (Span c d) = (omega (arith, ints, clamps), omega (arith, ints, clamps))

pub within_hull_right : (i j : Interval) → IsWithin j (hull i j)
within_hull_right Empty j = within_refl j
within_hull_right (Span a b) Empty = tt
within_hull_right (Span a b) (Span c d) = (omega (arith, ints, clamps), omega (arith, ints, clamps))

pub hull_least : (i j k : Interval) → IsWithin i k → IsWithin j k → IsWithin (hull i j) k
hull_least Empty j k p q = q
hull_least (Span a b) Empty k p q = p
hull_least (Span a b) (Span c d) Empty p q = absurd p
hull_least (Span a b) (Span c d) (Span e f) p q = (omega (arith, ints, clamps), omega (arith, ints, clamps))
