-- Where rounding lands: on the grid, at the least interval there that holds what is rounded; and the rounding
-- of a hull.
use Rattle.std.proofs.Common.{◌≡◌, zero, suc, List, [], ◌∷◌, map, get_or, refl, sym, ap, ◌∙◌, subst, arith, ⊎_elim, inl, inr}
use Rattle.std.specs.Prelude.{◌⊎◌, ℤ, ◌≤ℤ◌, ◌<ℤ◌, int_le}
use Rattle.std.specs.Int.{int_max, int_min}
use Rattle.std.specs.List.{Contains, filter}
use Rattle.std.specs.List.Sorted.{IsStrictlySortedBy}
use Rattle.std.specs.Ordering.{int_cmp}
use Rattle.std.proofs.lemmas.Int.{ints, clamps, by_lt_z}
use Rattle.std.proofs.lemmas.List.Elements.{Contains-append_left}
use Rattle.interval_domain.specs.Interval.{Interval, Empty, Span, IsWithin, hull}
use Rattle.interval_domain.specs.Grid.{first_or, last_or, floor_in, ceiling_in, rounded, type_bounds, number_of, all_numbers, IsOnGrid, IsRounder, IsLeastOnGrid, GivesHulls, IsGrid}
use Rattle.interval_domain.proofs.Rounding.{rounded-grows}
use Rattle.interval_domain.proofs.Orders.{le-yes, le-no}
use Rattle.interval_domain.proofs.Searching.{rises}

-- ---- members of rising lists

later : (x z : ℤ) (xs : List ℤ) → Contains xs z → Contains (x ∷ xs) z
later x z xs c = (suc c.0, omega arith, c.2)

in_cases : (x z : ℤ) (xs : List ℤ) → Contains (x ∷ xs) z → (x ≡ z) ⊎ Contains xs z
in_cases x z xs (zero, l, e) = inl e
in_cases x z xs (suc k, l, e) = inr (k, omega arith, e)

above : (x n : ℤ) (xs : List ℤ) → IsStrictlySortedBy int_cmp (x ∷ xs) → Contains xs n → x ≤ℤ n
above x n xs s (k, l, e) =
    let r : x ≤ℤ get_or xs k n = rises (x ∷ xs) s 0 (suc k) n (omega arith) (omega arith) in
    subst (λ (y : ℤ). x ≤ℤ y) e r

tail_sorted : (x : ℤ) (xs : List ℤ) → IsStrictlySortedBy int_cmp (x ∷ xs) → IsStrictlySortedBy int_cmp xs
unfolding IsStrictlySortedBy
tail_sorted x xs s = s.1

-- ---- the floor: a number of the grid, and the greatest

floor_or : (d z : ℤ) (g : List ℤ) → (last_or d (filter (λ n. int_le n z) g) ≡ d)
    ⊎ Contains g (last_or d (filter (λ n. int_le n z) g))
floor_or d z [] = inl refl
floor_or d z (x ∷ xs) =
    by_lt_z z x
    (λ over. rw (le-no x z over) (⊎_elim (λ e. inl e) (λ c. inr (later x _ xs c)) (floor_or d z xs)))
    (λ under. rw (le-yes x z under) (inr
    (⊎_elim (λ e. (zero, omega arith, sym e)) (λ c. later x _ xs c) (floor_or x z xs))))

floor_on : (d z n : ℤ) (g : List ℤ) → Contains g n → n ≤ℤ z → Contains g (last_or d (filter (λ n. int_le n z) g))
floor_on d z n [] c h = absurd (omega (arith, c.1))
floor_on d z n (x ∷ xs) c h =
    by_lt_z z x
    (λ over. rw (le-no x z over)
    (⊎_elim
    (λ e. absurd (let l : z <ℤ n = subst (λ (y : ℤ). z <ℤ y) e over in omega (arith, ints)))
    (λ d'. later x _ xs (floor_on d z n xs d' h)) (in_cases x n xs c)))
    (λ under. rw (le-yes x z under)
    (⊎_elim (λ e. (zero, omega arith, sym e)) (λ c'. later x _ xs c') (floor_or x z xs)))

floor_from : (d z : ℤ) (g : List ℤ) → ((n : ℤ) → Contains g n → d ≤ℤ n) → d ≤ℤ last_or d (filter (λ n. int_le n z) g)
floor_from d z g h = ⊎_elim (λ e. rw e (omega (arith, ints))) (λ c. h _ c) (floor_or d z g)

floor_top : (d z n : ℤ) (g : List ℤ) → IsStrictlySortedBy int_cmp g → Contains g n → n ≤ℤ z
    → n ≤ℤ last_or d (filter (λ n. int_le n z) g)
floor_top d z n [] s c h = absurd (omega (arith, c.1))
floor_top d z n (x ∷ xs) s c h =
    ⊎_elim
    (λ (e : x ≡ n).
    let under : x ≤ℤ z = subst (λ (y : ℤ). y ≤ℤ z) (sym e) h in
    rw (le-yes x z under)
    (subst (λ (y : ℤ). y ≤ℤ last_or x (filter (λ n. int_le n z) xs)) e (floor_from x z xs (λ m k. above x m xs s k))))
    (λ (k : Contains xs n).
    let low : x ≤ℤ n = above x n xs s k in
    rw (le-yes x z (omega (arith, ints))) (floor_top x z n xs (tail_sorted x xs s) k h))
    (in_cases x n xs c)

-- ---- the ceiling: a number of the grid, and the least

ceiling_on : (z n : ℤ) (g : List ℤ) → Contains g n → z ≤ℤ n → Contains g (first_or z (filter (λ n. int_le z n) g))
ceiling_on z n [] c h = absurd (omega (arith, c.1))
ceiling_on z n (x ∷ xs) c h =
    by_lt_z x z
    (λ under. rw (le-no z x under)
    (⊎_elim
    (λ e. absurd (let l : n <ℤ z = subst (λ (y : ℤ). y <ℤ z) e under in omega (arith, ints)))
    (λ d. later x _ xs (ceiling_on z n xs d h)) (in_cases x n xs c)))
    (λ over. rw (le-yes z x over) (zero, omega arith, refl))

ceiling_low : (z n : ℤ) (g : List ℤ) → IsStrictlySortedBy int_cmp g → Contains g n → z ≤ℤ n
    → first_or z (filter (λ n. int_le z n) g) ≤ℤ n
ceiling_low z n [] s c h = absurd (omega (arith, c.1))
ceiling_low z n (x ∷ xs) s c h =
    by_lt_z x z
    (λ under. rw (le-no z x under)
    (⊎_elim
    (λ e. absurd (let l : n <ℤ z = subst (λ (y : ℤ). y <ℤ z) e under in omega (arith, ints)))
    (λ d. ceiling_low z n xs (tail_sorted x xs s) d h) (in_cases x n xs c)))
    (λ over. rw (le-yes z x over)
    (⊎_elim (λ (e : x ≡ n). rw e (omega (arith, ints))) (λ (d : Contains xs n). above x n xs s d)
    (in_cases x n xs c)))

-- ---- rounding, where an interval on the grid holds what is rounded

pub rounded_on : (grid : List ℤ) (i j : Interval) → IsOnGrid grid j → IsWithin i j → IsOnGrid grid (rounded grid i)
rounded_on grid Empty j g w = tt
rounded_on grid (Span a b) Empty g w = absurd w
rounded_on grid (Span a b) (Span c d) g w = (floor_on a a c grid g.0 w.0, ceiling_on b d grid g.1 w.1)

pub rounded_in : (grid : List ℤ) (i j : Interval) → IsStrictlySortedBy int_cmp grid → IsOnGrid grid j → IsWithin i j
    → IsWithin (rounded grid i) j
rounded_in grid Empty j s g w = tt
rounded_in grid (Span a b) Empty s g w = absurd w
rounded_in grid (Span a b) (Span c d) s g w = (floor_top a a c grid s g.0 w.0, ceiling_low b d grid s g.1 w.1)

-- ---- hulls

floor_rises : (grid : List ℤ) (a c : ℤ) → a ≤ℤ c → floor_in grid a ≤ℤ floor_in grid c
floor_rises grid a c h = (rounded-grows grid (Span c c) (Span a c) (h, omega (arith, ints))).0

ceiling_rises : (grid : List ℤ) (b d : ℤ) → b ≤ℤ d → ceiling_in grid b ≤ℤ ceiling_in grid d
ceiling_rises grid b d h = (rounded-grows grid (Span b b) (Span b d) (omega (arith, ints), h)).1

min_left : (a c : ℤ) → a ≤ℤ c → int_min a c ≡ a
min_left a c h = omega (arith, ints, clamps)

min_right : (a c : ℤ) → c ≤ℤ a → int_min a c ≡ c
min_right a c h = omega (arith, ints, clamps)

max_left : (a c : ℤ) → c ≤ℤ a → int_max a c ≡ a
max_left a c h = omega (arith, ints, clamps)

max_right : (a c : ℤ) → a ≤ℤ c → int_max a c ≡ c
max_right a c h = omega (arith, ints, clamps)

floor_min : (grid : List ℤ) (a c : ℤ) → floor_in grid (int_min a c) ≡ int_min (floor_in grid a) (floor_in grid c)
floor_min grid a c =
    by_lt_z a c
    (λ less. ap (λ (z : ℤ). floor_in grid z) (min_left a c (omega (arith, ints)))
    ∙ sym (min_left (floor_in grid a) (floor_in grid c) (floor_rises grid a c (omega (arith, ints)))))
    (λ more. ap (λ (z : ℤ). floor_in grid z) (min_right a c more)
    ∙ sym (min_right (floor_in grid a) (floor_in grid c) (floor_rises grid c a more)))

ceiling_max : (grid : List ℤ) (b d : ℤ)
    → ceiling_in grid (int_max b d) ≡ int_max (ceiling_in grid b) (ceiling_in grid d)
ceiling_max grid b d =
    by_lt_z b d
    (λ less. ap (λ (z : ℤ). ceiling_in grid z) (max_right b d (omega (arith, ints)))
    ∙ sym (max_right (ceiling_in grid b) (ceiling_in grid d) (ceiling_rises grid b d (omega (arith, ints)))))
    (λ more. ap (λ (z : ℤ). ceiling_in grid z) (max_left b d more)
    ∙ sym (max_left (ceiling_in grid b) (ceiling_in grid d) (ceiling_rises grid d b more)))

-- the rounding of a hull is the hull of the roundings
pub rounded_hull : (grid : List ℤ) (i j : Interval) → rounded grid (hull i j) ≡ hull (rounded grid i) (rounded grid j)
rounded_hull grid Empty j = refl
rounded_hull grid (Span a b) Empty = refl
rounded_hull grid (Span a b) (Span c d) = rw (floor_min grid a c, ceiling_max grid b d) refl

-- ---- for the clauses of the call

pub on_grid-at : (grid : List ℤ) (i r : Interval) → IsRounder grid → r ≡ rounded grid i → IsWithin i all_numbers
    → IsOnGrid grid r
on_grid-at grid i r s e w =
    subst (λ (r : Interval). IsOnGrid grid r) (sym e) (rounded_on grid i all_numbers s.outermost w)

pub least-at : (grid : List ℤ) (i r : Interval) → IsRounder grid → r ≡ rounded grid i → IsLeastOnGrid grid i r
least-at grid i r s e j g w = subst (λ (r : Interval). IsWithin r j) (sym e) (rounded_in grid i j s.rising g w)

pub hulls-at : (grid : List ℤ) (i r : Interval) → r ≡ rounded grid i → GivesHulls grid i r
hulls-at grid i r e j = rounded_hull grid i j ∙ ap (λ (r : Interval). hull r (rounded grid j)) (sym e)

-- the bounds of types are in each grid
pub grid_rounds : (literals grid : List ℤ) → IsGrid literals grid → IsRounder grid
grid_rounds literals grid (first, f, s) = record {
  rising = s.rising;
  outermost = (
    s.all _ (Contains-append_left type_bounds (map number_of first) _ (6, omega arith, refl)),
    s.all _ (Contains-append_left type_bounds (map number_of first) _ (15, omega arith, refl)),
  );
}
