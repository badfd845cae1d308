-- What holds of each item of a list, and lists that fit place by place.
use Rattle.std.proofs.Common.{ℕ, zero, suc, ◌<◌, List, [], ◌∷◌, length, get_or, refl, subst, arith}
use Rattle.std.specs.List.{All, AllByRecursion, AllZip, Contains}
use Rattle.std.specs.List.Sorted.{IsPermutation}
use Rattle.std.proofs.lemmas.List.Sorted.{All-permutation}

pub all_at : {X : Type 0} (P : X → Type 0) (xs : List X) (k : ℕ) (d : X) → AllByRecursion P xs → k < length xs → P (get_or xs k d)
all_at P [] k d h l = absurd (omega arith)
all_at P (x ∷ xs) zero d h l = h.0
all_at P (x ∷ xs) (suc k) d h l = all_at P xs k d h.1 (omega arith)

all_recursive : {X : Type 0} (P : X → Type 0) (xs : List X) → All P xs → AllByRecursion P xs
all_recursive P [] h = tt
all_recursive P (x ∷ xs) h = (h zero x (omega arith), all_recursive P xs (λ k d l. h (suc k) d (omega arith)))

pub all_permuted : {X : Type 0} (P : X → Type 0) (xs ys : List X) → IsPermutation xs ys → AllByRecursion P xs → AllByRecursion P ys
all_permuted P xs ys p h = all_recursive P ys (All-permutation P xs ys p (λ k d l. all_at P xs k d h l))

-- an item of the second list is of one of the first, and the other way round
pub zip_back : {X Y : Type 0} (R : X → Y → Type 0) (xs : List X) (ys : List Y) (y : Y) → AllZip R xs ys → Contains ys y → (x : X) × Contains xs x × R x y
zip_back R [] [] y h c = absurd (omega (arith, c.1))
zip_back R [] (b ∷ ys) y h c = absurd h
zip_back R (a ∷ xs) [] y h c = absurd h
zip_back R (a ∷ xs) (b ∷ ys) y h (zero, l, e) = (a, (zero, omega arith, refl), subst (R a) e h.0)
zip_back R (a ∷ xs) (b ∷ ys) y h (suc k, l, e) =
    let more = zip_back R xs ys y h.1 (k, omega arith, e) in
    (more.0, (suc more.1.0, omega arith, more.1.2), more.2)

pub zip_forth : {X Y : Type 0} (R : X → Y → Type 0) (xs : List X) (ys : List Y) (x : X) → AllZip R xs ys → Contains xs x → (y : Y) × Contains ys y × R x y
zip_forth R [] [] x h c = absurd (omega (arith, c.1))
zip_forth R [] (b ∷ ys) x h c = absurd h
zip_forth R (a ∷ xs) [] x h c = absurd h
zip_forth R (a ∷ xs) (b ∷ ys) x h (zero, l, e) = (b, (zero, omega arith, refl), subst (λ z. R z b) e h.0)
zip_forth R (a ∷ xs) (b ∷ ys) x h (suc k, l, e) =
    let more = zip_forth R xs ys x h.1 (k, omega arith, e) in
    (more.0, (suc more.1.0, omega arith, more.1.2), more.2)
