-- The laws of negation and absolute value.
use Rattle.std.proofs.Common.{◌≡◌, ℤ, pos, negsuc, ◌≤ℤ◌, neg_ℤ, ◌-◌, ◌^◌, arith, refl, ◌∙◌}
use Rattle.std.specs.Int.{int_max}
use Rattle.std.proofs.lemmas.Int.{ints, clamps, by_lt_z}
use Rattle.interval_domain.specs.Interval.{Interval, Span, Holds, IsOrdered}
use Rattle.interval_domain.specs.Operators.{kept}
use Rattle.interval_domain.specs.Arithmetic.{negation_of, size_of, least_size, greatest_size, neg_at, abs_at, neg_raw, abs_raw}
use Rattle.interval_domain.specs.Laws.{of_one}
use Rattle.interval_domain.proofs.Bounds.{kept-le, both-ends, ordered-low, ordered-high}
use Rattle.interval_domain.proofs.Strict.{Contains, IsLeastFor, GrowsOne, held-one, least-one, least-grows-one}

-- ---- negation

pub held-neg : (i : Interval) → Contains (of_one negation_of i) kept (neg_raw i)
held-neg = held-one kept negation_of neg_at at
  where
    at : (a b x : ℤ) → a ≤ℤ x → x ≤ℤ b → Holds (neg_at a b) (kept (negation_of x))
    at a b x h k =
        (kept-le (neg_ℤ b) (neg_ℤ x) (omega (arith, ints)), kept-le (neg_ℤ x) (neg_ℤ a) (omega (arith, ints)))

pub least-neg : (i : Interval) → IsOrdered i → IsLeastFor (of_one negation_of i) kept (neg_raw i)
least-neg = least-one (of_one negation_of) kept neg_at at
  where
    at : (a b : ℤ) → a ≤ℤ b → IsLeastFor (of_one negation_of (Span a b)) kept (neg_at a b)
    at a b o k all =
        both-ends (kept (neg_ℤ b)) (kept (neg_ℤ a)) k
        (all (neg_ℤ b) (b, ordered-high a b o, refl)) (all (neg_ℤ a) (a, ordered-low a b o, refl))

pub larger-neg : (i : Interval) → IsOrdered i → GrowsOne neg_raw i
larger-neg i o = least-grows-one kept negation_of neg_raw held-neg i (least-neg i o)

-- the bounds are in order
pub neg-ordered : (a b : ℤ) → a ≤ℤ b → kept (neg_ℤ b) ≤ℤ kept (neg_ℤ a)
neg-ordered a b h = kept-le (neg_ℤ b) (neg_ℤ a) (omega (arith, ints))

-- ---- absolute value

size-is : (x : ℤ) → size_of x ≡ int_max x (neg_ℤ x)
size-is (pos n) = omega (arith, ints, clamps)
size-is (negsuc n) = omega (arith, ints, clamps)

held-size : (a b x s : ℤ) → s ≡ int_max x (neg_ℤ x) → a ≤ℤ x → x ≤ℤ b → (least_size a b ≤ℤ s)
    × (s ≤ℤ greatest_size a b)
held-size a b x s e h k = (omega (arith, ints, clamps), omega (arith, ints, clamps))

pub held-abs : (i : Interval) → Contains (of_one size_of i) kept (abs_raw i)
held-abs = held-one kept size_of abs_at at
  where
    at : (a b x : ℤ) → a ≤ℤ x → x ≤ℤ b → Holds (abs_at a b) (kept (size_of x))
    at a b x h k =
        let both = held-size a b x (size_of x) (size-is x) h k in
        (kept-le (least_size a b) (size_of x) both.0, kept-le (size_of x) (greatest_size a b) both.1)

low-size : (a b : ℤ) → a ≤ℤ b → of_one size_of (Span a b) (least_size a b)
low-size a b o =
    by_lt_z a (pos 0)
    (λ below. by_lt_z b (pos 0)
    (λ under. (b, ordered-high a b o, size-is b ∙ omega (arith, ints, clamps)))
    (λ over. (pos 0, (omega (arith, ints), over), omega (arith, ints, clamps))))
    (λ above. (a, ordered-low a b o, size-is a ∙ omega (arith, ints, clamps)))

high-size : (a b : ℤ) → a ≤ℤ b → of_one size_of (Span a b) (greatest_size a b)
high-size a b o =
    by_lt_z b (neg_ℤ a)
    (λ below. (a, ordered-low a b o, size-is a ∙ omega (arith, ints, clamps)))
    (λ above. (b, ordered-high a b o, size-is b ∙ omega (arith, ints, clamps)))

pub least-abs : (i : Interval) → IsOrdered i → IsLeastFor (of_one size_of i) kept (abs_raw i)
least-abs = least-one (of_one size_of) kept abs_at at
  where
    at : (a b : ℤ) → a ≤ℤ b → IsLeastFor (of_one size_of (Span a b)) kept (abs_at a b)
    at a b o k all =
        both-ends (kept (least_size a b)) (kept (greatest_size a b)) k
        (all (least_size a b) (low-size a b o)) (all (greatest_size a b) (high-size a b o))

pub larger-abs : (i : Interval) → IsOrdered i → GrowsOne abs_raw i
larger-abs i o = least-grows-one kept size_of abs_raw held-abs i (least-abs i o)

-- from bounds that are kept already
pub least_size-is : (a b : ℤ) → a ≤ℤ pos (2 ^ 127 - 1)
    → int_max (int_max a (kept (neg_ℤ b))) (pos 0) ≡ kept (least_size a b)
least_size-is a b h = omega (arith, ints, clamps)

pub greatest_size-is : (a b : ℤ) → int_max (kept (neg_ℤ a)) (kept b) ≡ kept (greatest_size a b)
greatest_size-is a b = omega (arith, ints, clamps)
