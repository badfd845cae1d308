-- Members of lists.
use Rattle.std.proofs.Common.{◌≡◌, ◌∙◌, zero, suc, List, [], ◌∷◌, map, arith, ap, Bool}
use Rattle.std.proofs.Common.{true, false, true≢false, refl, sym, inl, inr, ◌⊎◌}
use Rattle.std.specs.Prelude.{◌||◌}
use Rattle.std.specs.List.{Contains, list_any}

pub further : {A : Type 0} (x a : A) (xs : List A) → Contains xs a → Contains (x ∷ xs) a
further x a xs (k, l, e) = (suc k, omega arith, e)

pub contains_map : {A B : Type 0} (f : A → B) (xs : List A) (a : A) → Contains xs a
    → Contains (map f xs) (f a)
contains_map f [] a (k, l, e) = absurd (omega arith)
contains_map f (x ∷ xs) a (zero, l, e) = (0, omega arith, ap f e)
contains_map f (x ∷ xs) a (suc k, l, e) =
    further (f x) (f a) (map f xs) (contains_map f xs a (k, omega arith, e))

pub map_contains : {A B : Type 0} (f : A → B) (xs : List A) (b : B) → Contains (map f xs) b
    → (a : A) × Contains xs a × (f a ≡ b)
map_contains f [] b (k, l, e) = absurd (omega arith)
map_contains f (x ∷ xs) b (zero, l, e) = (x, (0, omega arith, refl), e)
map_contains f (x ∷ xs) b (suc k, l, e) =
    let part = map_contains f xs b (k, omega arith, e) in (part.0, further x part.0 xs part.1, part.2)

pub either : (a b : Bool) → (a || b) ≡ true → (a ≡ true) ⊎ (b ≡ true)
either true b h = inl refl
either false b h = inr h

pub second : (a b : Bool) → b ≡ true → (a || b) ≡ true
second true b h = refl
second false b h = h

pub first : (a b : Bool) → a ≡ true → (a || b) ≡ true
first a b h = rw h refl

-- some element passes the test
pub passing : {A : Type 0} (test : A → Bool) (xs : List A) → list_any test xs ≡ true
    → (a : A) × Contains xs a × (test a ≡ true)
passing test [] h = absurd (true≢false (sym h))
passing {A} test (x ∷ xs) h =
    elim (either (test x) (list_any test xs) h)
    as (λ _. (a : A) × Contains (x ∷ xs) a × (test a ≡ true)) [
      | inl e ↦ (x, (0, omega arith, refl), e)
      | inr e ↦ let later = passing test xs e in (later.0, further x later.0 xs later.1, later.2)
    ]

pub passes : {A : Type 0} (test : A → Bool) (xs : List A) (a : A) → Contains xs a → test a ≡ true
    → list_any test xs ≡ true
passes test [] a (k, l, e) h = absurd (omega arith)
passes test (x ∷ xs) a (zero, l, e) h = first (test x) (list_any test xs) (ap test e ∙ h)
passes test (x ∷ xs) a (suc k, l, e) h =
    second (test x) (list_any test xs) (passes test xs a (k, omega arith, e) h)
