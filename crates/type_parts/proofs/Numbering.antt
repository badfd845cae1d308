-- Enumerations that are numbered from the last one on.
use Rattle.std.proofs.Common.{◌≡◌, ◌∙◌, ℕ, suc, ◌+◌, ◌<◌, Bool, true, false, List, [], ◌∷◌, length}
use Rattle.std.proofs.Common.{get_or, drop, Some, sym, ap, subst, arith, add-one, drop-cons, cond}
use Rattle.std.specs.Prelude.{IfSome}
use Rattle.std.specs.BTreeMap.{BTreeMap, Updates}
use Rattle.std.specs.List.{position_from}
use Rattle.type_parts.specs.Parts.{Enumeration}
use Rattle.type_parts.specs.Places.{is_listed_at}
use Rattle.type_parts.specs.steps.Numbered.{key_cmp, key_of, AreNumbers}

-- one enumeration more, before those that are numbered
pub numbers_more : (xs : List Enumeration) (k : ℕ) (x : Enumeration) (old new : BTreeMap (ℕ × ℕ) ℕ)
    → k < length xs → x ≡ get_or xs k x → AreNumbers (k + 1) (drop (k + 1) xs) old
    → Updates key_cmp old new (key_of x.site) (Some k) → AreNumbers k (drop k xs) new
numbers_more xs k x old new l is h u site =
    let e : drop k xs ≡ x ∷ drop (k + 1) xs =
    rw add-one (drop-cons xs k x l ∙ ap (λ y. y ∷ drop (suc k) xs) (sym is)) in
    u.0 (key_of site)
    ∙ ap (cond (is_listed_at site x) (Some k)) (h site)
    ∙ ap (position_from (is_listed_at site) k) (sym e)

below_or_later : {A : Type 0} (test : A → Bool) (k n : ℕ) (xs : List A) (b : Bool)
    → IfSome (position_from test (k + 1) xs) (λ m. m < k + 1 + n)
    → IfSome (cond b (Some k) (position_from test (k + 1) xs)) (λ m. m < k + suc n)
below_or_later test k n xs true h = omega arith
below_or_later test k n xs false h =
    subst (λ (bound : ℕ). IfSome (position_from test (k + 1) xs) (λ m. m < bound)) (omega arith) h

position_below : {A : Type 0} (test : A → Bool) (k : ℕ) (xs : List A)
    → IfSome (position_from test k xs) (λ n. n < k + length xs)
position_below test k [] = tt
position_below test k (x ∷ xs) =
    below_or_later test k (length xs) xs (test x) (position_below test (k + 1) xs)

-- a position in a list lies within it
pub position_within : {A : Type 0} (test : A → Bool) (xs : List A)
    → IfSome (position_from test 0 xs) (λ n. n < length xs)
position_within test xs =
    subst (λ (bound : ℕ). IfSome (position_from test 0 xs) (λ n. n < bound)) (omega arith)
    (position_below test 0 xs)
