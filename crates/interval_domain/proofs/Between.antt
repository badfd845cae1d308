-- Numbers between two others, and intervals that hold them.
use Rattle.std.proofs.Common.{◌≡◌, ◌⊎◌, inl, inr, ℤ, ◌≤ℤ◌, arith, subst, sym}
use Rattle.std.specs.Int.{int_max, int_min}
use Rattle.std.proofs.lemmas.Int.{ints, clamps, by_lt_z}
use Rattle.interval_domain.specs.Interval.{Interval, Empty, Span, Holds, IsWithin, IsOrdered, span, hull, meet}
use Rattle.interval_domain.specs.Operators.{kept}
use Rattle.interval_domain.specs.Arithmetic.{hull_of}
use Rattle.interval_domain.specs.Stored.{span-ordered, span-reversed}
use Rattle.interval_domain.proofs.Bounds.{kept-le}

-- z lies between p and q, in either order
abbrev pub IsBetween : ℤ → ℤ → ℤ → Type 0
IsBetween p q z = ((p ≤ℤ z) × (z ≤ℤ q)) ⊎ ((q ≤ℤ z) × (z ≤ℤ p))

pub between-kept : (p q z : ℤ) → IsBetween p q z → IsBetween (kept p) (kept q) (kept z)
between-kept p q z (inl h) = inl (kept-le p z h.0, kept-le z q h.1)
between-kept p q z (inr h) = inr (kept-le q z h.0, kept-le z p h.1)

-- at most each of four numbers, and at least each
abbrev IsBelow : (l p q r s : ℤ) → Type 0
IsBelow l p q r s = (l ≤ℤ p) × (l ≤ℤ q) × (l ≤ℤ r) × (l ≤ℤ s)

abbrev IsAbove : (h p q r s : ℤ) → Type 0
IsAbove h p q r s = (p ≤ℤ h) × (q ≤ℤ h) × (r ≤ℤ h) × (s ≤ℤ h)

least-below : (p q r s : ℤ) → IsBelow (int_min (int_min p q) (int_min r s)) p q r s
least-below p q r s = (
  omega (arith, ints, clamps),
  omega (arith, ints, clamps),
  omega (arith, ints, clamps),
  omega (arith, ints, clamps),
)

greatest-above : (p q r s : ℤ) → IsAbove (int_max (int_max p q) (int_max r s)) p q r s
greatest-above p q r s = (
  omega (arith, ints, clamps),
  omega (arith, ints, clamps),
  omega (arith, ints, clamps),
  omega (arith, ints, clamps),
)

between-bounds : (l h p q r s u v z : ℤ) → IsBelow l p q r s → IsAbove h p q r s
    → IsBetween p q u → IsBetween r s v → IsBetween u v z → (l ≤ℤ z) × (z ≤ℤ h)
between-bounds l h p q r s u v z b a (inl x) (inl y) (inl w) = (omega (arith, ints), omega (arith, ints))
between-bounds l h p q r s u v z b a (inl x) (inl y) (inr w) = (omega (arith, ints), omega (arith, ints))
between-bounds l h p q r s u v z b a (inl x) (inr y) (inl w) = (omega (arith, ints), omega (arith, ints))
between-bounds l h p q r s u v z b a (inl x) (inr y) (inr w) = (omega (arith, ints), omega (arith, ints))
between-bounds l h p q r s u v z b a (inr x) (inl y) (inl w) = (omega (arith, ints), omega (arith, ints))
between-bounds l h p q r s u v z b a (inr x) (inl y) (inr w) = (omega (arith, ints), omega (arith, ints))
between-bounds l h p q r s u v z b a (inr x) (inr y) (inl w) = (omega (arith, ints), omega (arith, ints))
between-bounds l h p q r s u v z b a (inr x) (inr y) (inr w) = (omega (arith, ints), omega (arith, ints))

-- what lies between numbers that lie between the four
pub between-held : (p q r s u v z : ℤ) → IsBetween p q u → IsBetween r s v → IsBetween u v z
    → Holds (hull_of p q r s) z
between-held p q r s u v z x y w =
    between-bounds (int_min (int_min p q) (int_min r s)) (int_max (int_max p q) (int_max r s)) p q r s u v z
    (least-below p q r s) (greatest-above p q r s) x y w

-- the hull of four numbers lies in each interval that holds them
pub hull_of-within : (p q r s : ℤ) (j : Interval) → Holds j p → Holds j q → Holds j r → Holds j s
    → IsWithin (hull_of p q r s) j
hull_of-within p q r s Empty h i k l = absurd h
hull_of-within p q r s (Span a b) h i k l = (omega (arith, ints, clamps), omega (arith, ints, clamps))

pub hull-left : (i j : Interval) (z : ℤ) → Holds i z → Holds (hull i j) z
hull-left Empty j z h = absurd h
hull-left (Span a b) Empty z h = h
hull-left (Span a b) (Span c d) z h = (omega (arith, ints, clamps), omega (arith, ints, clamps))

pub hull-right : (i j : Interval) (z : ℤ) → Holds j z → Holds (hull i j) z
hull-right Empty j z h = h
hull-right (Span a b) Empty z h = absurd h
hull-right (Span a b) (Span c d) z h = (omega (arith, ints, clamps), omega (arith, ints, clamps))

pub holds-within : (i j : Interval) (z : ℤ) → IsWithin i j → Holds i z → Holds j z
holds-within Empty j z h k = absurd k
holds-within (Span a b) Empty z h k = absurd h
holds-within (Span a b) (Span c d) z h k = (omega (arith, ints), omega (arith, ints))

pub hull_of-spans : (p q r s : ℤ)
    → span (int_min (int_min p q) (int_min r s)) (int_max (int_max p q) (int_max r s)) ≡ hull_of p q r s
hull_of-spans p q r s =
    span-ordered (int_min (int_min p q) (int_min r s)) (int_max (int_max p q) (int_max r s))
    (omega (arith, ints, clamps))

-- a span within an interval, which may be out of order
pub span-in : (a b c d : ℤ) → c ≤ℤ a → b ≤ℤ d → IsWithin (span a b) (Span c d)
span-in a b c d h k =
    by_lt_z b a
    (λ below. subst (λ (i : Interval). IsWithin i (Span c d)) (sym (span-reversed a b below)) tt)
    (λ ordered. subst (λ (i : Interval). IsWithin i (Span c d)) (sym (span-ordered a b ordered)) (h, k))

-- what two intervals have in common lies in the second
pub meet-right : (i k : Interval) → IsWithin (meet i k) k
meet-right Empty k = tt
meet-right (Span a b) Empty = tt
meet-right (Span a b) (Span c d) =
    span-in (int_max a c) (int_min b d) c d (omega (arith, ints, clamps)) (omega (arith, ints, clamps))

-- it is in order
pub meet-ordered : (i k : Interval) → IsOrdered (meet i k)
meet-ordered Empty k = tt
meet-ordered (Span a b) Empty = tt
meet-ordered (Span a b) (Span c d) = span-in-order (int_max a c) (int_min b d)
  where
    span-in-order : (a b : ℤ) → IsOrdered (span a b)
    span-in-order a b =
        by_lt_z b a
        (λ below. subst (λ (i : Interval). IsOrdered i) (sym (span-reversed a b below)) tt)
        (λ ordered. subst (λ (i : Interval). IsOrdered i) (sym (span-ordered a b ordered)) ordered)
