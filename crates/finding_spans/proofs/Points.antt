-- Where a search by halves ends.
use Rattle.std.proofs.Common.{◌≡◌, ℕ, zero, suc, ◌<◌, ◌≤◌, Bool, true, false, List, [], ◌∷◌, length, get_or, arith}
use Rattle.std.proofs.lemmas.List.Sums.{prefix_len_is}
use Rattle.std.specs.List.{prefix_len}
use Rattle.std.specs.List.Sorted.{IsNonDecreasingBy, IsPartitionPoint}

pub point_is : {X : Type 0} (p : X → Bool) (xs : List X) (count : ℕ) → count ≤ length xs → IsPartitionPoint (λ x. p x ≡ true) (λ x. p x ≡ false) xs count → prefix_len p xs ≡ count
point_is p [] count bound point = omega arith
point_is p (x ∷ xs) count bound point = prefix_len_is p (x ∷ xs) count x bound (λ k l. point.0 k x (omega arith) l) (λ l. point.1 count x (omega arith) l)

pub rising_cons : {X : Type 0} (key : X → ℕ) (x : X) (xs : List X) → ((j : ℕ) (d : X) → j < length xs → key x ≤ key (get_or xs j d)) → IsNonDecreasingBy key xs → IsNonDecreasingBy key (x ∷ xs)
rising_cons key x xs below h zero zero d l m = omega arith
rising_cons key x xs below h zero (suc j) d l m = below j d (omega arith)
rising_cons key x xs below h (suc i) zero d l m = absurd (omega arith)
rising_cons key x xs below h (suc i) (suc j) d l m = h i j d (omega arith) (omega arith)
