-- The laws of MIN, MAX, LIMIT, SEL and conversions.
use Rattle.std.proofs.Common.{◌≡◌, inl, inr, Bool, true, false, not, ◌||◌, ℤ, pos, ◌≤ℤ◌, arith, subst, sym, refl, ap, ◌∙◌}
use Rattle.std.specs.Int.{int_max, int_min}
use Rattle.std.specs.Ordering.{int_eq}
use Rattle.std.proofs.lemmas.Int.{ints, clamps}
use Rattle.std.proofs.lemmas.Bool.{cases_Bool}
use Rattle.interval_domain.specs.Interval.{Interval, Empty, Span, Holds, holds, IsWithin, IsOrdered, is_within, is_empty, hull}
use Rattle.interval_domain.specs.Selection.{least_of, greatest_of, limited, chosen, min_at, max_at, min_row, max_row, limit_row, sel_row, given}
use Rattle.interval_domain.specs.Laws.{of_one, of_two, of_three, same}
use Rattle.interval_domain.proofs.Between.{hull-left, hull-right}
use Rattle.interval_domain.proofs.Bounds.{both-ends, ordered-low, ordered-high}
use Rattle.interval_domain.proofs.Orders.{le-yes, eq-is, eq-yes}
use Rattle.interval_domain.proofs.Strict.{Contains, IsLeastFor, GrowsTwo, held-two, rises-two}
use Rattle.interval_domain.proofs.Within.{within_trans, within_hull_left, within_hull_right, hull_least}

pub min-ordered : (a b c d : ℤ) → a ≤ℤ b → c ≤ℤ d → int_min a c ≤ℤ int_min b d
min-ordered a b c d h k = omega (arith, ints, clamps)

pub max-ordered : (a b c d : ℤ) → a ≤ℤ b → c ≤ℤ d → int_max a c ≤ℤ int_max b d
max-ordered a b c d h k = omega (arith, ints, clamps)

pub held-min : (i j : Interval) → Contains (of_two least_of i j) same (min_row i j)
held-min = held-two same least_of min_at (λ a b c d x y h k l m. (min-ordered a x c y h l, min-ordered x b y d k m))

pub held-max : (i j : Interval) → Contains (of_two greatest_of i j) same (max_row i j)
held-max =
    held-two same greatest_of max_at (λ a b c d x y h k l m. (max-ordered a x c y h l, max-ordered x b y d k m))

pub larger-min : (i j : Interval) → GrowsTwo min_row i j
larger-min = rises-two min_at (λ a b c d e f g n h k l m. (min-ordered e a g c h l, min-ordered b f d n k m))

pub larger-max : (i j : Interval) → GrowsTwo max_row i j
larger-max = rises-two max_at (λ a b c d e f g n h k l m. (max-ordered e a g c h l, max-ordered b f d n k m))

pub held-limit : (mn i mx : Interval) → Contains (of_three limited mn i mx) same (limit_row mn i mx)
held-limit mn i mx v (x, y, z, h, k, l, e) =
    held-min (max_row i mn) mx v (greatest_of y x, z, held-max i mn (greatest_of y x) (y, x, k, h, refl), l, e)

pub larger-limit : (mn i mx a b c : Interval) → IsWithin mn a → IsWithin i b → IsWithin mx c
    → IsWithin (limit_row mn i mx) (limit_row a b c)
larger-limit mn i mx a b c h k l = larger-min (max_row i mn) mx (max_row b a) c (larger-max i mn b a k h) l

-- ---- SEL

holds-true : (i : Interval) (z : ℤ) → Holds i z → holds i z ≡ true
holds-true Empty z h = absurd h
holds-true (Span a b) z h = rw (le-yes a z h.0, le-yes z b h.1) refl

held-not-empty : (i : Interval) (z : ℤ) → Holds i z → is_empty i ≡ false
held-not-empty Empty z h = absurd h
held-not-empty (Span a b) z h = refl

zero-alone : (i : Interval) (z : ℤ) → Holds i z → is_within i (Span (pos 0) (pos 0)) ≡ true → z ≡ pos 0
zero-alone Empty z h e = absurd h
zero-alone (Span a b) z h e = grind (arith, ints)

given-holds : (test : Bool) (i : Interval) (z : ℤ) → test ≡ true → Holds i z → Holds (given test i) z
given-holds test i z e h = rw e h

none-empty : (g i j : Interval) (x y z : ℤ) → Holds g x → Holds i y → Holds j z
    → not (is_empty g || is_empty i || is_empty j) ≡ true
none-empty g i j x y z h k l = rw (held-not-empty g x h, held-not-empty i y k, held-not-empty j z l) refl

held-chosen : (g i j : Interval) (x y z : ℤ) → Holds g x → Holds i y → Holds j z
    → Holds (sel_row g i j) (chosen x y z)
held-chosen g i j x y z h k l =
    given-holds _ _ _ (none-empty g i j x y z h k l)
    (elim (cases_Bool (int_eq x (pos 0))) [
      | inl e ↦
          let zero : x ≡ pos 0 = eq-is x (pos 0) e in
          let there : holds g (pos 0) ≡ true = holds-true g (pos 0) (subst (λ (v : ℤ). Holds g v) zero h) in
          rw e (hull-left (given (holds g (pos 0)) i) (given (not (is_within g (Span (pos 0) (pos 0)))) j) y
          (given-holds (holds g (pos 0)) i y there k))
      | inr e ↦
          rw e (hull-right (given (holds g (pos 0)) i) (given (not (is_within g (Span (pos 0) (pos 0)))) j) z
          (elim (cases_Bool (is_within g (Span (pos 0) (pos 0)))) [
            | inl w ↦ let wrong : true ≡ false = sym (eq-yes x (pos 0) (zero-alone g x h w)) ∙ e in cc
            | inr w ↦ given-holds (not (is_within g (Span (pos 0) (pos 0)))) j z (ap not w) l
          ]))
    ])

pub held-sel : (g i j : Interval) → Contains (of_three chosen g i j) same (sel_row g i j)
held-sel g i j v (x, y, z, h, k, l, e) = subst (λ (v : ℤ). Holds (sel_row g i j) v) e (held-chosen g i j x y z h k l)

-- an interval under a test that holds more often
given-larger : (s t : Bool) (i k : Interval) → (s ≡ true → t ≡ true) → IsWithin i k → IsWithin (given s i) (given t k)
given-larger false t i k h m = tt
given-larger true t i k h m = rw (h refl) m

not-empty-larger : (i k : Interval) → IsWithin i k → is_empty i ≡ false → is_empty k ≡ false
not-empty-larger Empty k h e = cc
not-empty-larger (Span a b) Empty h e = absurd h
not-empty-larger (Span a b) (Span c d) h e = refl

none_of : (a b c : Bool) → not (a || b || c) ≡ true → (a ≡ false) × (b ≡ false) × (c ≡ false)
none_of false false false e = (refl, refl, refl)
none_of true b c e = cc
none_of false true c e = cc
none_of false false true e = cc

all-larger : (g i j k l m : Interval) → IsWithin g k → IsWithin i l → IsWithin j m
    → not (is_empty g || is_empty i || is_empty j) ≡ true → not (is_empty k || is_empty l || is_empty m) ≡ true
all-larger g i j k l m p q r e =
    let all = none_of (is_empty g) (is_empty i) (is_empty j) e in
    rw (not-empty-larger g k p all.0, not-empty-larger i l q all.1, not-empty-larger j m r all.2) refl

zero-larger : (g k : Interval) → IsWithin g k → holds g (pos 0) ≡ true → holds k (pos 0) ≡ true
zero-larger Empty k h e = cc
zero-larger (Span a b) Empty h e = absurd h
zero-larger (Span a b) (Span c d) h e = grind (arith, ints)

other-larger : (g k : Interval) → IsWithin g k → not (is_within g (Span (pos 0) (pos 0))) ≡ true
    → not (is_within k (Span (pos 0) (pos 0))) ≡ true
other-larger Empty k h e = cc
other-larger (Span a b) Empty h e = absurd h
other-larger (Span a b) (Span c d) h e = grind (arith, ints)

hull-larger : (i j k l : Interval) → IsWithin i k → IsWithin j l → IsWithin (hull i j) (hull k l)
hull-larger i j k l h m =
    hull_least i j (hull k l) (within_trans i k (hull k l) h (within_hull_left k l))
    (within_trans j l (hull k l) m (within_hull_right k l))

pub larger-sel : (g i j k l m : Interval) → IsWithin g k → IsWithin i l → IsWithin j m
    → IsWithin (sel_row g i j) (sel_row k l m)
larger-sel g i j k l m p q r =
    given-larger _ _ _ _ (all-larger g i j k l m p q r)
    (hull-larger (given (holds g (pos 0)) i) (given (not (is_within g (Span (pos 0) (pos 0)))) j)
    (given (holds k (pos 0)) l) (given (not (is_within k (Span (pos 0) (pos 0)))) m)
    (given-larger (holds g (pos 0)) (holds k (pos 0)) i l (zero-larger g k p) q)
    (given-larger (not (is_within g (Span (pos 0) (pos 0)))) (not (is_within k (Span (pos 0) (pos 0)))) j m
    (other-larger g k p) r))

-- ---- conversions keep the number

pub held-whole : (i : Interval) → Contains (of_one same i) same i
held-whole i z (x, h, e) = subst (λ (v : ℤ). Holds i v) e h

pub least-whole : (i : Interval) → IsOrdered i → IsLeastFor (of_one same i) same i
least-whole Empty o k all = tt
least-whole (Span a b) o k all =
    both-ends a b k (all a (a, ordered-low a b o, refl)) (all b (b, ordered-high a b o, refl))
