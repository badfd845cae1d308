-- What stands at places of lists.
use Rattle.std.proofs.Common.{◌≡◌, ◌≢◌, ℕ, zero, suc, ◌<◌, ◌≤◌, Some, List, [], ◌∷◌, ◌++◌, length, replicate, arith, refl, sym, ap, ◌∙◌, inl, inr, ⊎_elim}
use Rattle.std.specs.Prelude.{◌⊎◌, slice_get, slice_set}
use Rattle.std.specs.List.{Contains}
use Rattle.std.proofs.lemmas.Option.{slice_get_within, slice_get-get_or, get_or_from_slice_get}

pub same_or_not : (k n : ℕ) → (k ≡ n) ⊎ (k ≢ n)
same_or_not k n = grind arith

pub below_or_not : (k n : ℕ) → (k < n) ⊎ (n ≤ k)
below_or_not k n = grind arith

-- one value at a place
pub one_value : {X : Type 0} (xs : List X) (i : ℕ) (x y : X) → slice_get xs i ≡ Some x → slice_get xs i ≡ Some y → x ≡ y
one_value xs i x y p q = sym (get_or_from_slice_get xs i x x p) ∙ get_or_from_slice_get xs i y x q

pub contained : (xs : List ℕ) (i x : ℕ) → slice_get xs i ≡ Some x → Contains xs x
contained xs i x e = (i, slice_get_within xs i x e, get_or_from_slice_get xs i x x e)

pub place_of : (xs : List ℕ) (x : ℕ) → Contains xs x → (i : ℕ) × (slice_get xs i ≡ Some x)
place_of xs x (i, l, e) = (i, slice_get-get_or xs i x l ∙ ap (λ (y : ℕ). Some y) e)

-- a list with one more at its end
pub push_left : {X : Type 0} (xs : List X) (y : X) (i : ℕ) (x : X) → slice_get xs i ≡ Some x → slice_get (xs ++ y ∷ []) i ≡ Some x
push_left [] y i x e = absurd (cc)
push_left (z ∷ xs) y zero x e = e
push_left (z ∷ xs) y (suc i) x e = push_left xs y i x e

pub push_last : {X : Type 0} (xs : List X) (y : X) → slice_get (xs ++ y ∷ []) (length xs) ≡ Some y
push_last [] y = refl
push_last (z ∷ xs) y = push_last xs y

pub push_cases : {X : Type 0} (xs : List X) (y : X) (i : ℕ) (x : X) → slice_get (xs ++ y ∷ []) i ≡ Some x
    → (slice_get xs i ≡ Some x) ⊎ ((i ≡ length xs) × (y ≡ x))
push_cases [] y zero x e = inr (refl, one_value (y ∷ []) 0 y x refl e)
push_cases [] y (suc i) x e = absurd (cc)
push_cases (z ∷ xs) y zero x e = inl e
push_cases (z ∷ xs) y (suc i) x e = ⊎_elim
    (λ (p : slice_get xs i ≡ Some x). inl p)
    (λ (p : (i ≡ length xs) × (y ≡ x)). inr (ap suc p.0, p.1))
    (push_cases xs y i x e)

-- a list with another value at a place
pub set_here : {X : Type 0} (xs : List X) (i : ℕ) (x y : X) → slice_get xs i ≡ Some x → slice_get (slice_set xs i y) i ≡ Some y
set_here [] i x y e = absurd (cc)
set_here (z ∷ xs) zero x y e = refl
set_here (z ∷ xs) (suc i) x y e = set_here xs i x y e

pub set_else : {X : Type 0} (xs : List X) (i k : ℕ) (y : X) → k ≢ i → slice_get (slice_set xs i y) k ≡ slice_get xs k
set_else [] i k y ne = refl
set_else (z ∷ xs) zero zero y ne = absurd (ne refl)
set_else (z ∷ xs) zero (suc k) y ne = refl
set_else (z ∷ xs) (suc i) zero y ne = refl
set_else (z ∷ xs) (suc i) (suc k) y ne = set_else xs i k y (λ e. ne (ap suc e))

-- the same value at each place
pub replicated : {X : Type 0} (n i : ℕ) (x y : X) → slice_get (replicate n x) i ≡ Some y → y ≡ x
replicated zero i x y e = absurd (cc)
replicated (suc n) zero x y e = sym (one_value (x ∷ []) 0 x y refl e)
replicated (suc n) (suc i) x y e = replicated n i x y e

pub replicate_here : {X : Type 0} (n i : ℕ) (x : X) → i < n → slice_get (replicate n x) i ≡ Some x
replicate_here zero i x l = absurd (omega arith)
replicate_here (suc n) zero x l = refl
replicate_here (suc n) (suc i) x l = replicate_here n i x (omega arith)
