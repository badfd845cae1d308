-- Lists as collections: what they contain, and how often.
use Rattle.std.proofs.Common.{◌≡◌, ℕ, zero, suc, ◌+◌, Bool, true, cond, List, [], ◌∷◌, ◌++◌}
use Rattle.std.proofs.Common.{length, Option, Some, None, slice_get, refl, sym, ap}
use Rattle.std.proofs.Common.{map, subst, ◌∙◌, arith, inl, inr, ◌⊎◌}
use Rattle.std.specs.Prelude.{Contains, count_by, flat_map, filter_map}
use Rattle.std.specs.List.{cons_option}
use Rattle.std.proofs.lemmas.List.Sums.{sum_by-append, sum_by-cons}

abbrev pub Among : {X : Type 0} → X → List X → Type 0
Among x [] = ⊥
Among x (y ∷ ys) = (x ≡ y) ⊎ Among x ys

pub among_contained : {X : Type 0} (xs : List X) (x : X) → Contains xs x → Among x xs
among_contained [] x (k, less, is) = absurd (omega (arith, less))
among_contained (y ∷ ys) x (zero, less, is) = inl (sym is)
among_contained (y ∷ ys) x (suc k, less, is) =
    inr (among_contained ys x (k, omega (arith, less), is))

pub contained_among : {X : Type 0} (xs : List X) (x : X) → Among x xs → Contains xs x
contained_among [] x h = absurd h
contained_among (y ∷ ys) x (inl is) = (zero, omega arith, sym is)
contained_among (y ∷ ys) x (inr h) =
    let r = contained_among ys x h in (suc r.0, omega (arith, r.1), r.2)

pub among_either : {X : Type 0} (x : X) (xs ys : List X) → Among x (xs ++ ys) →
    Among x xs ⊎ Among x ys
among_either x [] ys h = inr h
among_either x (z ∷ xs) ys (inl is) = inl (inl is)
among_either x (z ∷ xs) ys (inr h) =
    elim (among_either x xs ys h) [ inl k ↦ inl (inr k) | inr k ↦ inr k ]

pub among_left : {X : Type 0} (x : X) (xs ys : List X) → Among x xs → Among x (xs ++ ys)
among_left x [] ys h = absurd h
among_left x (z ∷ xs) ys (inl is) = inl is
among_left x (z ∷ xs) ys (inr h) = inr (among_left x xs ys h)

pub among_right : {X : Type 0} (x : X) (xs ys : List X) → Among x ys → Among x (xs ++ ys)
among_right x [] ys h = h
among_right x (z ∷ xs) ys h = inr (among_right x xs ys h)

pub among_one : {A X : Type 0} (list : A → List X) (x : X) (y : A) (ys : List A) → Among y ys →
    Among x (list y) → Among x (flat_map list ys)
among_one list x y [] there h = absurd there
among_one list x y (z ∷ zs) (inl is) h =
    among_left x (list z) (flat_map list zs) (subst (λ a. Among x (list a)) is h)
among_one list x y (z ∷ zs) (inr there) h =
    among_right x (list z) (flat_map list zs) (among_one list x y zs there h)

pub among_flat : {A X : Type 0} (list : A → List X) (x : X) (ys : List A) →
    Among x (flat_map list ys) → (y : A) × Among y ys × Among x (list y)
among_flat list x [] h = absurd h
among_flat list x (y ∷ ys) h = elim (among_either x (list y) (flat_map list ys) h) [
  | inl here ↦ (y, inl refl, here)
  | inr later ↦ let r = among_flat list x ys later in (r.0, inr r.1, r.2)
]

pub among_map : {A B : Type 0} (make : A → B) (y : B) (xs : List A) → Among y (map make xs) →
    (x : A) × Among x xs × (y ≡ make x)
among_map make y [] h = absurd h
among_map make y (x ∷ xs) (inl is) = (x, inl refl, is)
among_map make y (x ∷ xs) (inr h) = let r = among_map make y xs h in (r.0, inr r.1, r.2)

pub map_among : {A B : Type 0} (make : A → B) (x : A) (xs : List A) → Among x xs →
    Among (make x) (map make xs)
map_among make x [] h = absurd h
map_among make x (y ∷ ys) (inl is) = inl (ap make is)
map_among make x (y ∷ ys) (inr h) = inr (map_among make x ys h)

chosen_one : {A X : Type 0} (choose : A → Option X) (x : X) (y : A) (found : List X)
    (o : Option X) → choose y ≡ o → Among x (cons_option o found) →
    (choose y ≡ Some x) ⊎ Among x found
chosen_one choose x y found None e h = inr h
chosen_one choose x y found (Some z) e (inl is) = inl (e ∙ ap Some (sym is))
chosen_one choose x y found (Some z) e (inr h) = inr h

-- what was chosen is chosen of one of them
pub among_chosen : {A X : Type 0} (choose : A → Option X) (x : X) (ys : List A) →
    Among x (filter_map choose ys) → (y : A) × Among y ys × (choose y ≡ Some x)
among_chosen choose x [] h = absurd h
among_chosen choose x (y ∷ ys) h =
    elim (chosen_one choose x y (filter_map choose ys) (choose y) refl h) [
      | inl is ↦ (y, inl refl, is)
      | inr later ↦ let r = among_chosen choose x ys later in (r.0, inr r.1, r.2)
    ]

-- ---- lists that give the same at each place

pub first_of : {X : Type 0} (x y : X) → Some x ≡ Some y → x ≡ y
first_of x y e = ap (λ o. value x o) e
  where
    value : {X : Type 0} → X → Option X → X
    value d None = d
    value d (Some x) = x

pub same_places : {X : Type 0} (xs ys : List X) → ((k : ℕ) → slice_get xs k ≡ slice_get ys k) →
    xs ≡ ys
same_places [] [] h = refl
same_places [] (y ∷ ys) h = absurd (let e = h zero in cc)
same_places (x ∷ xs) [] h = absurd (let e = h zero in cc)
same_places (x ∷ xs) (y ∷ ys) h =
    rw (first_of x y (h zero), same_places xs ys (λ k. h (suc k))) refl

-- ---- counts

pub count_append : {X : Type 0} (test : X → Bool) (xs ys : List X) → count_by test (xs ++ ys)
    ≡ count_by test xs + count_by test ys
count_append test xs ys = sum_by-append (λ x. cond (test x) 1 0) xs ys

pub count_cons : {X : Type 0} (test : X → Bool) (x : X) (xs : List X) → count_by test (x ∷ xs)
    ≡ cond (test x) 1 0 + count_by test xs
count_cons test x xs = sum_by-cons (λ y. cond (test y) 1 0) x xs

-- all of them
pub count_all : {X : Type 0} (xs : List X) → count_by (λ x. true) xs ≡ length xs
count_all [] = refl
count_all (x ∷ xs) = omega (arith, count_cons (λ x. true) x xs, count_all xs)
