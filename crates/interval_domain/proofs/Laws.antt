-- The laws of spans and meets, of types, of sums and of differences.
use Rattle.std.proofs.Common.{◌≡◌, ℤ, pos, ◌≤ℤ◌, ◌+ℤ◌, ◌-ℤ◌, neg_ℤ, ◌^◌, ◌&&◌, Bool, int_le, arith, subst, sym, refl}
use Rattle.std.proofs.lemmas.Int.{ints, clamps, by_lt_z}
use Rattle.std.specs.Int.{int_max, int_min}
use Rattle.iec_tables.specs.declared.elem.Elem.{Elem}
use Rattle.iec_tables.specs.Types as types
use Rattle.interval_domain.specs.Interval.{Interval, Empty, Span, Holds, IsWithin, IsOrdered, span, meet_at, meet}
use Rattle.interval_domain.specs.Operators.{kept, range_of, sum_of, difference_of, add_at, sub_at, add_raw, sub_raw}
use Rattle.interval_domain.specs.Laws.{of_two}
use Rattle.interval_domain.specs.Stored.{span-ordered, span-reversed}
use Rattle.interval_domain.proofs.Bounds.{kept-le, both-ends, ordered-low, ordered-high}
use Rattle.interval_domain.proofs.Orders.{le-is, and-is}
use Rattle.interval_domain.proofs.Strict.{IsLeastFor, GrowsTwo, held-two, least-two, rises-two}
use Rattle.interval_domain.proofs.EachType.{for-each-type}

-- ---- spans and meets

pub span-holds : (a b z : ℤ) → a ≤ℤ z → z ≤ℤ b → Holds (span a b) z
span-holds a b z h k = subst (λ (i : Interval). Holds i z) (sym (span-ordered a b (omega (arith, ints)))) (h, k)

pub span-within : (a b c d : ℤ) → c ≤ℤ a → b ≤ℤ d → IsWithin (span a b) (span c d)
span-within a b c d h k =
    by_lt_z b a
    (λ below. subst (λ (i : Interval). IsWithin i (span c d)) (sym (span-reversed a b below)) tt)
    (λ ordered.
    subst (λ (i : Interval). IsWithin i (span c d)) (sym (span-ordered a b ordered))
    (subst (λ (j : Interval). IsWithin (Span a b) j) (sym (span-ordered c d (omega (arith, ints)))) (h, k)))

pub meet-holds : (i j : Interval) (z : ℤ) → Holds i z → Holds j z → Holds (meet i j) z
meet-holds Empty j z h k = absurd h
meet-holds (Span a b) Empty z h k = absurd k
meet-holds (Span a b) (Span c d) z h k =
    span-holds (int_max a c) (int_min b d) z (omega (arith, ints, clamps)) (omega (arith, ints, clamps))

meet_at-within : (e f a b c d : ℤ) → c ≤ℤ a → b ≤ℤ d → IsWithin (meet_at a b e f) (meet_at c d e f)
meet_at-within e f a b c d h k =
    span-within (int_max a e) (int_min b f) (int_max c e) (int_min d f) (omega (arith, ints, clamps))
    (omega (arith, ints, clamps))

pub meet-within : (i j k : Interval) → IsWithin i j → IsWithin (meet i k) (meet j k)
meet-within Empty j k h = tt
meet-within (Span a b) Empty k h = absurd h
meet-within (Span a b) (Span c d) Empty h = tt
meet-within (Span a b) (Span c d) (Span e f) h = meet_at-within e f a b c d h.0 h.1

-- ---- types

-- no type leaves what is kept
abbrev fits-kept : Elem → Bool
fits-kept t = int_le (neg_ℤ (pos (2 ^ 64))) (types.low_of t) && int_le (types.high_of t) (pos (2 ^ 64))

pub range-kept : (t : Elem) → (neg_ℤ (pos (2 ^ 64)) ≤ℤ types.low_of t) × (types.high_of t ≤ℤ pos (2 ^ 64))
range-kept t =
    let both = and-is _ _ (for-each-type fits-kept refl t) in
    (le-is (neg_ℤ (pos (2 ^ 64))) (types.low_of t) both.0, le-is (types.high_of t) (pos (2 ^ 64)) both.1)

kept-between : (l h z : ℤ) → neg_ℤ (pos (2 ^ 64)) ≤ℤ l → h ≤ℤ pos (2 ^ 64) → l ≤ℤ z → z ≤ℤ h → kept z ≡ z
kept-between l h z p q r s = omega (arith, ints, clamps)

pub kept-typed : (t : Elem) (z : ℤ) → Holds (range_of t) z → kept z ≡ z
kept-typed t z h = kept-between (types.low_of t) (types.high_of t) z (range-kept t).0 (range-kept t).1 h.0 h.1

-- ---- sums and differences

pub held-add : (i j : Interval) (x y : ℤ) → Holds i x → Holds j y → Holds (add_raw i j) (kept (sum_of x y))
held-add i j x y h k = held-two kept sum_of add_at at i j (x +ℤ y) (x, y, h, k, refl)
  where
    at : (a b c d x y : ℤ) → a ≤ℤ x → x ≤ℤ b → c ≤ℤ y → y ≤ℤ d → Holds (add_at a b c d) (kept (sum_of x y))
    at a b c d x y h k l m =
        (kept-le (a +ℤ c) (x +ℤ y) (omega (arith, ints)), kept-le (x +ℤ y) (b +ℤ d) (omega (arith, ints)))

pub held-sub : (i j : Interval) (x y : ℤ) → Holds i x → Holds j y → Holds (sub_raw i j) (kept (difference_of x y))
held-sub i j x y h k = held-two kept difference_of sub_at at i j (x -ℤ y) (x, y, h, k, refl)
  where
    at : (a b c d x y : ℤ) → a ≤ℤ x → x ≤ℤ b → c ≤ℤ y → y ≤ℤ d → Holds (sub_at a b c d) (kept (difference_of x y))
    at a b c d x y h k l m =
        (kept-le (a -ℤ d) (x -ℤ y) (omega (arith, ints)), kept-le (x -ℤ y) (b -ℤ c) (omega (arith, ints)))

pub larger-add : (i j : Interval) → GrowsTwo add_raw i j
larger-add = rises-two add_at at
  where
    at : (a b c d e f g n : ℤ) → e ≤ℤ a → b ≤ℤ f → g ≤ℤ c → d ≤ℤ n → IsWithin (add_at a b c d) (add_at e f g n)
    at a b c d e f g n h k l m =
        (kept-le (e +ℤ g) (a +ℤ c) (omega (arith, ints)), kept-le (b +ℤ d) (f +ℤ n) (omega (arith, ints)))

pub larger-sub : (i j : Interval) → GrowsTwo sub_raw i j
larger-sub = rises-two sub_at at
  where
    at : (a b c d e f g n : ℤ) → e ≤ℤ a → b ≤ℤ f → g ≤ℤ c → d ≤ℤ n → IsWithin (sub_at a b c d) (sub_at e f g n)
    at a b c d e f g n h k l m =
        (kept-le (e -ℤ n) (a -ℤ d) (omega (arith, ints)), kept-le (b -ℤ c) (f -ℤ g) (omega (arith, ints)))

-- both bounds of a raw result are results
pub least-add : (i j : Interval) → IsOrdered i → IsOrdered j → IsLeastFor (of_two sum_of i j) kept (add_raw i j)
least-add = least-two (λ i j. of_two sum_of i j) kept add_at at
  where
    at : (a b c d : ℤ) → a ≤ℤ b → c ≤ℤ d → IsLeastFor (of_two sum_of (Span a b) (Span c d)) kept (add_at a b c d)
    at a b c d p q k all =
        both-ends _ _ k (all (a +ℤ c) (a, c, ordered-low a b p, ordered-low c d q, refl))
        (all (b +ℤ d) (b, d, ordered-high a b p, ordered-high c d q, refl))

pub least-sub : (i j : Interval) → IsOrdered i → IsOrdered j
    → IsLeastFor (of_two difference_of i j) kept (sub_raw i j)
least-sub = least-two (λ i j. of_two difference_of i j) kept sub_at at
  where
    at : (a b c d : ℤ) → a ≤ℤ b → c ≤ℤ d
        → IsLeastFor (of_two difference_of (Span a b) (Span c d)) kept (sub_at a b c d)
    at a b c d p q k all =
        both-ends _ _ k (all (a -ℤ d) (a, d, ordered-low a b p, ordered-high c d q, refl))
        (all (b -ℤ c) (b, c, ordered-high a b p, ordered-low c d q, refl))
