-- The first row that declares a name in a scope, in the list of all rows.
use Rattle.std.proofs.Common.{◌≡◌, ℕ, suc, ◌<◌, Bool, true, false, List, [], ◌∷◌, length, get_or, Some, None, arith, ap, ◌∙◌, refl}
use Rattle.std.specs.List.{find}
use Rattle.std.specs.Ordering.{is_lt, is_eq}
use Rattle.std.specs.declared.cmp.Ordering.{Ordering}
use Rattle.std.specs.declared.cmp.Ordering.TheVariants.{Less, Equal, Greater}
use Rattle.std.proofs.lemmas.Bool.{false_from_ne_true}
use Rattle.std.proofs.lemmas.List.Elements.{Contains-get_or}
use Rattle.std.proofs.lemmas.List.Folds.{find_at}
use Rattle.std.proofs.lemmas.List.Sums.{position_or_len_is}
use Rattle.std.proofs.lemmas.Option.{slice_get-get_or}
use Rattle.std.specs.Prelude.{slice_get}
use Rattle.scope_names.specs.declared.names.NameRow.{NameRow}
use Rattle.scope_names.specs.Scopes.{Declares, IsNowhere, declares, first_of}
use Rattle.scope_names.specs.Searches.{against, IsStart}
use Rattle.scope_names.proofs.Tables.{tied, declared}

equal : (o : Ordering) → is_eq o ≡ true → o ≡ Equal
equal Less h = cc
equal Equal h = refl
equal Greater h = cc

not_equal : (o : Ordering) → is_lt o ≡ true → is_eq o ≡ false
not_equal Less h = refl
not_equal Equal h = cc
not_equal Greater h = cc

find-none : {X : Type 0} (p : X → Bool) (xs : List X)
    → ((k : ℕ) (d : X) → k < length xs → p (get_or xs k d) ≡ false) → find p xs ≡ None
find-none p [] h = refl
find-none p (x ∷ xs) h =
    rw (h 0 x (omega arith)) (find-none p xs (λ k d l. h (suc k) d (omega arith)))

find-some : {X : Type 0} (p : X → Bool) (xs : List X) (i : ℕ) (d : X) → i < length xs
    → ((k : ℕ) → k < i → p (get_or xs k d) ≡ false) → p (get_or xs i d) ≡ true
    → find p xs ≡ Some (get_or xs i d)
find-some p xs i d l before here =
    find_at p xs
    ∙ ap (slice_get xs) (position_or_len_is p xs i d (omega arith) before (λ m. here))
    ∙ slice_get-get_or xs i d l

undeclared : {W : Type 0} (scope : ℕ) (name : List ℕ) (row : NameRow W)
    → ¬ (Declares scope name row) → declares scope name row ≡ false
undeclared scope name row n =
    false_from_ne_true (declares scope name row)
    (λ h. n (declared scope name row (equal (against scope name row) h)))

pub none-found : {W : Type 0} (rows : List (NameRow W)) (scope : ℕ) (name : List ℕ)
    → IsNowhere rows scope name → first_of rows scope name ≡ None
none-found rows scope name n =
    find-none (declares scope name) rows
    (λ k d l. undeclared scope name (get_or rows k d) (n (get_or rows k d) (Contains-get_or rows k d l)))

pub first-found : {W : Type 0} (rows : List (NameRow W)) (scope : ℕ) (name : List ℕ) (i : ℕ)
    → IsStart scope name rows i → (d : NameRow W) → i < length rows
    → Declares scope name (get_or rows i d) → first_of rows scope name ≡ Some (get_or rows i d)
first-found rows scope name i p d l h =
    find-some (declares scope name) rows i d l
    (λ k m. not_equal (against scope name (get_or rows k d)) (p.0 k d (omega arith) m))
    (ap is_eq (tied scope name (get_or rows i d) h))
