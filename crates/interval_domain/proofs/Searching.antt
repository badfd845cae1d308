-- Where a search in a rising list ends.
use Rattle.std.proofs.Common.{◌≡◌, ◌≢◌, ℕ, zero, suc, ◌<◌, ◌≤◌, ◌-◌, length, take, drop, get_or, Bool, true, false, List, [], ◌∷◌, ℤ, ◌≤ℤ◌, ◌<ℤ◌, int_le, int_lt, arith, ap, ◌∙◌, sym, refl}
use Rattle.std.specs.List.{filter, AllByRecursion}
use Rattle.std.specs.List.Sorted.{IsStrictlySortedBy, IsPartitionedBy, IsPartitionPoint}
use Rattle.std.specs.Ordering.{int_cmp}
use Rattle.std.specs.declared.cmp.Ordering.TheVariants.{Less}
use Rattle.std.proofs.lemmas.Int.{ints}
use Rattle.std.proofs.lemmas.Cmp.{int_ranked}
use Rattle.interval_domain.specs.Grid.{first_or, last_or, floor_in, ceiling_in}

above_all : (x : ℤ) (xs : List ℤ) (j : ℕ) (d : ℤ) → AllByRecursion (λ y. int_cmp x y ≡ Less) xs → j < length xs
    → x <ℤ get_or xs j d
above_all x [] j d h k = absurd (omega arith)
above_all x (y ∷ ys) zero d h k = int_ranked x y Less (sym h.0)
above_all x (y ∷ ys) (suc j) d h k = above_all x ys j d h.1 (omega arith)

pub rises : (g : List ℤ) → IsStrictlySortedBy int_cmp g → (i j : ℕ) (d : ℤ) → i ≤ j → j < length g
    → get_or g i d ≤ℤ get_or g j d
unfolding IsStrictlySortedBy
rises [] s i j d h k = absurd (omega arith)
rises (x ∷ xs) s zero zero d h k = omega (arith, ints)
rises (x ∷ xs) s zero (suc j) d h k =
    let more : x <ℤ get_or xs j d = above_all x xs j d s.0 (omega arith) in omega (arith, ints)
rises (x ∷ xs) s (suc i) zero d h k = absurd (omega arith)
rises (x ∷ xs) s (suc i) (suc j) d h k = rises xs s.1 i j d (omega arith) (omega arith)

le_down : (a b z : ℤ) → a ≤ℤ b → int_le b z ≡ true → int_le a z ≡ true
le_down a b z h k = grind (arith, ints)

lt_down : (a b z : ℤ) → a ≤ℤ b → int_lt b z ≡ true → int_lt a z ≡ true
lt_down a b z h k = grind (arith, ints)

pub parted-le : (g : List ℤ) (z : ℤ) → IsStrictlySortedBy int_cmp g → IsPartitionedBy (λ n. int_le n z) g
parted-le g z s i j d h k e = le_down (get_or g i d) (get_or g j d) z (rises g s i j d h k) e

pub parted-lt : (g : List ℤ) (z : ℤ) → IsStrictlySortedBy int_cmp g → IsPartitionedBy (λ n. int_lt n z) g
parted-lt g z s i j d h k e = lt_down (get_or g i d) (get_or g j d) z (rises g s i j d h k) e

filter-none : (p : ℤ → Bool) (g : List ℤ) → ((k : ℕ) (d : ℤ) → k < length g → p (get_or g k d) ≡ false)
    → filter p g ≡ []
filter-none p [] h = refl
filter-none p (x ∷ xs) h = rw (h 0 x (omega arith)) (filter-none p xs (λ k d l. h (suc k) d (omega arith)))

filter-all : (p : ℤ → Bool) (g : List ℤ) → ((k : ℕ) (d : ℤ) → k < length g → p (get_or g k d) ≡ true) → filter p g ≡ g
filter-all p [] h = refl
filter-all p (x ∷ xs) h =
    rw (h 0 x (omega arith)) (ap (λ l. x ∷ l) (filter-all p xs (λ k d l. h (suc k) d (omega arith))))

filter-take : (p : ℤ → Bool) (g : List ℤ) (i : ℕ) → i ≤ length g
    → ((k : ℕ) (d : ℤ) → k < i → p (get_or g k d) ≡ true)
    → ((k : ℕ) (d : ℤ) → i ≤ k → k < length g → p (get_or g k d) ≡ false) → filter p g ≡ take i g
filter-take p g zero h a b = filter-none p g (λ k d l. b k d (omega arith) l)
filter-take p [] (suc i) h a b = absurd (omega arith)
filter-take p (x ∷ xs) (suc i) h a b =
    rw (a 0 x (omega arith))
    (ap (λ l. x ∷ l) (filter-take p xs i (omega arith) (λ k d l. a (suc k) d (omega arith))
    (λ k d l m. b (suc k) d (omega arith) (omega arith))))

filter-drop : (p : ℤ → Bool) (g : List ℤ) (i : ℕ) → i ≤ length g
    → ((k : ℕ) (d : ℤ) → k < i → p (get_or g k d) ≡ false)
    → ((k : ℕ) (d : ℤ) → i ≤ k → k < length g → p (get_or g k d) ≡ true) → filter p g ≡ drop i g
filter-drop p g zero h a b = filter-all p g (λ k d l. b k d (omega arith) l)
filter-drop p [] (suc i) h a b = absurd (omega arith)
filter-drop p (x ∷ xs) (suc i) h a b =
    rw (a 0 x (omega arith))
    (filter-drop p xs i (omega arith) (λ k d l. a (suc k) d (omega arith))
    (λ k d l m. b (suc k) d (omega arith) (omega arith)))

last_or-take : (z : ℤ) (g : List ℤ) (k : ℕ) (d : ℤ) → k < length g → last_or z (take (suc k) g) ≡ get_or g k d
last_or-take z [] k d h = absurd (omega arith)
last_or-take z (x ∷ xs) zero d h = refl
last_or-take z (x ∷ xs) (suc k) d h = last_or-take x xs k d (omega arith)

first_or-drop : (z : ℤ) (g : List ℤ) (k : ℕ) (d : ℤ) → k < length g → first_or z (drop k g) ≡ get_or g k d
first_or-drop z [] k d h = absurd (omega arith)
first_or-drop z (x ∷ xs) zero d h = refl
first_or-drop z (x ∷ xs) (suc k) d h = first_or-drop z xs k d (omega arith)

abbrev pub IsEndLe : List ℤ → ℤ → ℕ → Type 0
IsEndLe g z i = IsPartitionPoint (λ n. int_le n z ≡ true) (λ n. int_le n z ≡ false) g i

abbrev pub IsEndLt : List ℤ → ℤ → ℕ → Type 0
IsEndLt g z i = IsPartitionPoint (λ n. int_lt n z ≡ true) (λ n. int_lt n z ≡ false) g i

floor-take : (g : List ℤ) (z : ℤ) (i : ℕ) → i ≤ length g → IsEndLe g z i → floor_in g z ≡ last_or z (take i g)
floor-take g z i h p = ap (last_or z) (filter-take (λ n. int_le n z) g i h (λ k d l. p.0 k d (omega arith) l) p.1)

pub floor-none : (g : List ℤ) (z : ℤ) (i : ℕ) → i ≡ 0 → IsEndLe g z i → floor_in g z ≡ z
floor-none g z i e p = floor-take g z i (omega arith) p ∙ ap (λ k. last_or z (take k g)) e

pub floor-found : (g : List ℤ) (z : ℤ) (i : ℕ) (d : ℤ) → i ≢ 0 → i ≤ length g → IsEndLe g z i
    → floor_in g z ≡ get_or g (i - 1) d
floor-found g z zero d n h p = absurd (n refl)
floor-found g z (suc k) d n h p =
    floor-take g z (suc k) h p ∙ last_or-take z g k d (omega arith) ∙ ap (λ m. get_or g m d) (omega arith)

not_lt : (a b : ℤ) → int_lt a b ≡ false → int_le b a ≡ true
not_lt a b h = grind (arith, ints)

lt_not : (a b : ℤ) → int_lt a b ≡ true → int_le b a ≡ false
lt_not a b h = grind (arith, ints)

ceiling-drop : (g : List ℤ) (z : ℤ) (i : ℕ) → i ≤ length g → IsEndLt g z i → ceiling_in g z ≡ first_or z (drop i g)
ceiling-drop g z i h p =
    ap (first_or z)
    (filter-drop (λ n. int_le z n) g i h (λ k d l. lt_not (get_or g k d) z (p.0 k d (omega arith) l))
    (λ k d l m. not_lt (get_or g k d) z (p.1 k d l m)))

pub ceiling-found : (g : List ℤ) (z : ℤ) (i : ℕ) (d : ℤ) → i < length g → IsEndLt g z i
    → ceiling_in g z ≡ get_or g i d
ceiling-found g z i d h p = ceiling-drop g z i (omega arith) p ∙ first_or-drop z g i d h

drop-all : (g : List ℤ) (i : ℕ) → i ≡ length g → drop i g ≡ []
drop-all [] zero e = refl
drop-all [] (suc i) e = refl
drop-all (x ∷ xs) zero e = absurd (omega arith)
drop-all (x ∷ xs) (suc i) e = drop-all xs i (omega arith)

pub ceiling-none : (g : List ℤ) (z : ℤ) (i : ℕ) → i ≤ length g → length g ≤ i → IsEndLt g z i → ceiling_in g z ≡ z
ceiling-none g z i h k p = ceiling-drop g z i h p ∙ ap (first_or z) (drop-all g i (omega arith))
