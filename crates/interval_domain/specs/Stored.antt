-- How the bounds are found again from the interval that they are seen as.
use Rattle.std.specs.Prelude.{◌≡◌, ℤ, pos, ◌<ℤ◌, ◌≤ℤ◌, int_le, refl, true, false}
use Rattle.std.proofs.Common.{arith, ap, ◌∙◌, sym}
use Rattle.std.proofs.lemmas.Int.{ints, by_lt_z}
use Rattle.interval_domain.specs.Interval.{Empty, Span, span, low_of, high_of}

-- bounds in order, or those of the empty interval
abbrev pub AreBounds : ℤ → ℤ → Type 0
AreBounds low high = (high <ℤ low) → (low ≡ pos 1) × (high ≡ pos 0)

pub span-ordered : (a b : ℤ) → a ≤ℤ b → span a b ≡ Span a b
span-ordered a b h = let e : int_le a b ≡ true = grind (arith, ints) in rw e refl

pub span-reversed : (a b : ℤ) → b <ℤ a → span a b ≡ Empty
span-reversed a b h = let e : int_le a b ≡ false = grind (arith, ints) in rw e refl

pub low_of-span : (a b : ℤ) → AreBounds a b → low_of (span a b) ≡ a
low_of-span a b h =
    by_lt_z b a (λ below. ap low_of (span-reversed a b below) ∙ sym (h below).0)
    (λ ordered. ap low_of (span-ordered a b ordered))

pub high_of-span : (a b : ℤ) → AreBounds a b → high_of (span a b) ≡ b
high_of-span a b h =
    by_lt_z b a (λ below. ap high_of (span-reversed a b below) ∙ sym (h below).1)
    (λ ordered. ap high_of (span-ordered a b ordered))
