-- The search in a rising list, and the laws of rounding.
use Rattle.std.proofs.Common.{◌≡◌, List, [], ◌∷◌, ℤ, ◌≤ℤ◌, int_le, arith, sym, subst}
use Rattle.std.specs.List.{filter}
use Rattle.std.proofs.lemmas.Int.{ints, by_lt_z}
use Rattle.interval_domain.specs.Interval.{Interval, Empty, Span, IsWithin, span}
use Rattle.interval_domain.specs.Stored.{span-ordered}
use Rattle.interval_domain.proofs.Orders.{le-yes, le-no}
use Rattle.interval_domain.specs.Grid.{first_or, last_or, floor_in, ceiling_in, rounded, GrowsFrom}

last-le : (d z : ℤ) (g : List ℤ) → d ≤ℤ z → last_or d (filter (λ n. int_le n z) g) ≤ℤ z
last-le d z [] h = h
last-le d z (x ∷ xs) h =
    by_lt_z z x
    (λ above. rw (le-no x z above) (last-le d z xs h))
    (λ below. rw (le-yes x z below) (last-le x z xs below))

first-ge : (z : ℤ) (g : List ℤ) → z ≤ℤ first_or z (filter (λ n. int_le z n) g)
first-ge z [] = omega (arith, ints)
first-ge z (x ∷ xs) =
    by_lt_z x z
    (λ below. rw (le-no z x below) (first-ge z xs))
    (λ above. rw (le-yes z x above) above)

last-grows : (d e z w : ℤ) (g : List ℤ) → d ≤ℤ e → d ≤ℤ z → e ≤ℤ w → z ≤ℤ w
    → last_or d (filter (λ n. int_le n z) g) ≤ℤ last_or e (filter (λ n. int_le n w) g)
last-grows d e z w [] p q r s = p
last-grows d e z w (x ∷ xs) p q r s =
    by_lt_z z x
    (λ above_z. by_lt_z w x
    (λ above_w. rw (le-no x z above_z, le-no x w above_w) (last-grows d e z w xs p q r s))
    (λ below_w. rw (le-no x z above_z, le-yes x w below_w) (last-grows d x z w xs (omega (arith, ints)) q below_w s)))
    (λ below_z. rw (le-yes x z below_z, le-yes x w (omega (arith, ints)))
    (last-grows x x z w xs (omega (arith, ints)) below_z (omega (arith, ints)) s))

first-grows : (z w : ℤ) (g : List ℤ) → z ≤ℤ w
    → first_or z (filter (λ n. int_le z n) g) ≤ℤ first_or w (filter (λ n. int_le w n) g)
first-grows z w [] s = s
first-grows z w (x ∷ xs) s =
    by_lt_z x z
    (λ below_z. rw (le-no z x below_z, le-no w x (omega (arith, ints))) (first-grows z w xs s))
    (λ above_z. by_lt_z x w
    (λ below_w.
    let more : w ≤ℤ first_or w (filter (λ n. int_le w n) xs) = first-ge w xs in
    rw (le-yes z x above_z, le-no w x below_w) (omega (arith, ints)))
    (λ above_w. rw (le-yes z x above_z, le-yes w x above_w) (omega (arith, ints))))

pub rounded-wider : (g : List ℤ) (i : Interval) → IsWithin i (rounded g i)
rounded-wider g Empty = tt
rounded-wider g (Span a b) = (last-le a a g (omega (arith, ints)), first-ge b g)

pub rounded-grows : (g : List ℤ) (i : Interval) → GrowsFrom g i (rounded g i)
rounded-grows g Empty j h = tt
rounded-grows g (Span a b) Empty h = absurd h
rounded-grows g (Span a b) (Span c d) h =
    (last-grows c a c a g h.0 (omega (arith, ints)) (omega (arith, ints)) h.0, first-grows b d g h.1)

pub floor_in-le : (g : List ℤ) (z : ℤ) → floor_in g z ≤ℤ z
floor_in-le g z = last-le z z g (omega (arith, ints))

pub ceiling_in-ge : (g : List ℤ) (z : ℤ) → z ≤ℤ ceiling_in g z
ceiling_in-ge g z = first-ge z g

-- from the bounds that were found
pub rounded-spans : (g : List ℤ) (a b : ℤ) → a ≤ℤ b → span (floor_in g a) (ceiling_in g b) ≡ rounded g (Span a b)
rounded-spans g a b h =
    let low : floor_in g a ≤ℤ a = floor_in-le g a in
    let high : b ≤ℤ ceiling_in g b = ceiling_in-ge g b in
    span-ordered (floor_in g a) (ceiling_in g b) (omega (arith, ints))

pub wider-at : (g : List ℤ) (i r : Interval) → r ≡ rounded g i → IsWithin i r
wider-at g i r e = subst (λ (r : Interval). IsWithin i r) (sym e) (rounded-wider g i)

pub grows-at : (g : List ℤ) (i r : Interval) → r ≡ rounded g i → GrowsFrom g i r
grows-at g i r e = subst (λ (r : Interval). GrowsFrom g i r) (sym e) (rounded-grows g i)
