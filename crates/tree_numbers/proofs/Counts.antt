-- How many elements pass a test that only a front of the list passes.
use Rattle.std.proofs.Common.{◌≡◌, ℕ, zero, suc, ◌+◌, ◌≤◌, List, [], ◌∷◌, Bool, true, false, length, cond, ap, ◌∙◌, arith}
use Rattle.std.proofs.lemmas.List.Sums.{sum_by-cons}
use Rattle.std.specs.List.{count_by}
use Rattle.std.specs.List.Sorted.{IsPartitionPoint}

pub count_to : (p : ℕ → Bool) (xs : List ℕ) (i : ℕ) → i ≤ length xs →
    IsPartitionPoint (λ y. p y ≡ true) (λ y. p y ≡ false) xs i → i ≡ count_by p xs
count_to p [] i le point = omega (arith, le)
count_to p (x ∷ xs) zero le point =
    let off : p x ≡ false = point.1 0 x (omega arith) (omega arith) in
    let rest =
    count_to p xs 0 (omega arith) (
      λ k d l m. point.0 (suc k) d (omega arith) (omega (arith, m)),
      λ k d l m. point.1 (suc k) d (omega arith) (omega (arith, m)),
    ) in
    let counted : count_by p (x ∷ xs) ≡ cond false 1 0 + count_by p xs =
    sum_by-cons (λ y. cond (p y) 1 0) x xs ∙ ap (λ b. cond b 1 0 + count_by p xs) off in
    omega (arith, rest, counted)
count_to p (x ∷ xs) (suc i) le point =
    let on : p x ≡ true = point.0 0 x (omega arith) (omega arith) in
    let rest =
    count_to p xs i (omega (arith, le)) (
      λ k d l m. point.0 (suc k) d (omega arith) (omega (arith, m)),
      λ k d l m. point.1 (suc k) d (omega (arith, l)) (omega (arith, m)),
    ) in
    let counted : count_by p (x ∷ xs) ≡ cond true 1 0 + count_by p xs =
    sum_by-cons (λ y. cond (p y) 1 0) x xs ∙ ap (λ b. cond b 1 0 + count_by p xs) on in
    omega (arith, rest, counted)
