-- The rows that declare a name in a scope, as the run of them in the table.
use Rattle.std.proofs.Common.{◌≡◌, ◌∙◌, ℕ, suc, ◌<◌, Bool, true, false, List, [], ◌∷◌, ◌++◌, length, get_or, arith, ap, refl}
use Rattle.std.specs.List.{filter}
use Rattle.std.specs.Ordering.{is_eq}
use Rattle.std.specs.declared.cmp.Ordering.{Ordering}
use Rattle.std.specs.declared.cmp.Ordering.TheVariants.{Less, Equal, Greater}
use Rattle.std.proofs.lemmas.Bool.{false_from_ne_true}
use Rattle.std.proofs.lemmas.List.{append-nil}
use Rattle.std.proofs.lemmas.List.Elements.{filter-append, Contains-get_or}
use Rattle.scope_names.specs.declared.names.NameRow.{NameRow}
use Rattle.scope_names.specs.Scopes.{Declares, IsNowhere, IsRun, declares}
use Rattle.scope_names.specs.Searches.{against}
use Rattle.scope_names.proofs.Tables.{tied, declared}

equal : (o : Ordering) → is_eq o ≡ true → o ≡ Equal
equal Less h = cc
equal Equal h = refl
equal Greater h = cc

filter-all : {X : Type 0} (p : X → Bool) (xs : List X)
    → ((k : ℕ) (d : X) → k < length xs → p (get_or xs k d) ≡ true) → filter p xs ≡ xs
filter-all p [] h = refl
filter-all p (x ∷ xs) h =
    rw (h 0 x (omega arith))
    (ap (λ ys. x ∷ ys) (filter-all p xs (λ k d l. h (suc k) d (omega arith))))

filter-none : {X : Type 0} (p : X → Bool) (xs : List X)
    → ((k : ℕ) (d : X) → k < length xs → p (get_or xs k d) ≡ false) → filter p xs ≡ []
filter-none p [] h = refl
filter-none p (x ∷ xs) h =
    rw (h 0 x (omega arith)) (filter-none p xs (λ k d l. h (suc k) d (omega arith)))

undeclared : {W : Type 0} (scope : ℕ) (name : List ℕ) (row : NameRow W)
    → ¬ (Declares scope name row) → declares scope name row ≡ false
undeclared scope name row n =
    false_from_ne_true (declares scope name row)
    (λ h. n (declared scope name row (equal (against scope name row) h)))

nowhere : {W : Type 0} (rows : List (NameRow W)) (scope : ℕ) (name : List ℕ)
    → IsNowhere rows scope name → filter (declares scope name) rows ≡ []
nowhere rows scope name n =
    filter-none (declares scope name) rows
    (λ k d l. undeclared scope name (get_or rows k d) (n (get_or rows k d) (Contains-get_or rows k d l)))

pub run_is : {W : Type 0} (rows : List (NameRow W)) (scope : ℕ) (name : List ℕ)
    (some : List (NameRow W)) → IsRun rows scope name some
    → filter (declares scope name) rows ≡ some
run_is rows scope name some r =
    let test = declares scope name in
    let inside : filter test some ≡ some =
    filter-all test some (λ k d l. ap is_eq (tied scope name (get_or some k d) (r.inside k d l))) in
    ap (filter test) r.parts
    ∙ filter-append test r.front (some ++ r.back)
    ∙ ap (λ xs. xs ++ filter test (some ++ r.back)) (nowhere r.front scope name r.before)
    ∙ filter-append test some r.back
    ∙ ap (λ xs. xs ++ filter test r.back) inside
    ∙ ap (λ xs. some ++ xs) (nowhere r.back scope name r.behind)
    ∙ append-nil some
