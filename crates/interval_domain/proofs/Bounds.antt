-- Intervals made of bounds in order are spans.
use Rattle.std.proofs.Common.{ℤ, ◌≤ℤ◌, arith}
use Rattle.std.proofs.lemmas.Int.{ints, clamps}
use Rattle.interval_domain.specs.Interval.{Interval, Empty, Span, Holds, IsWithin}
use Rattle.interval_domain.specs.Operators.{kept}

pub kept-le : (x y : ℤ) → x ≤ℤ y → kept x ≤ℤ kept y
kept-le x y h = omega (arith, ints, clamps)

-- an interval that holds both ends holds all between
pub both-ends : (l h : ℤ) (j : Interval) → Holds j l → Holds j h → IsWithin (Span l h) j
both-ends l h Empty p q = absurd p
both-ends l h (Span a b) p q = (p.0, q.1)

-- the ends of an interval in order are in it
pub ordered-low : (a b : ℤ) → a ≤ℤ b → Holds (Span a b) a
ordered-low a b h = (omega (arith, ints), h)

pub ordered-high : (a b : ℤ) → a ≤ℤ b → Holds (Span a b) b
ordered-high a b h = (h, omega (arith, ints))
