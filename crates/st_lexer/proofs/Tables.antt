-- Tables of texts: what is found in one stands there, and what stands in one whose texts differ is
-- found.
use Rattle.std.proofs.Common.{◌≡◌, ℕ, zero, suc, Bool, true, false, cond, not, ◌&&◌, List, [], ◌∷◌, Some, None, refl, sym, ap, ◌∙◌, arith}
use Rattle.std.specs.Prelude.{bytes_eq}
use Rattle.std.specs.List.{list_any, Contains}
use Rattle.st_lexer.specs.Front.{found_in}
use Rattle.st_lexer.proofs.Tests.{same, equal, both, or_right, false_by}

pub found_there : {A : Type 0} (rows : List (A × List ℕ)) (text : List ℕ) (v : A)
    → found_in rows text ≡ Some v → Contains rows (v, text)
found_there [] text v e = absurd cc
found_there {A = A} (row ∷ rows) text v e =
    by (bytes_eq text row.1) refl e (found_there rows text v)
  where
    by : (t : Bool) → bytes_eq text row.1 ≡ t → cond t (Some row.0) (found_in rows text) ≡ Some v
        → (found_in rows text ≡ Some v → Contains rows (v, text)) → Contains (row ∷ rows) (v, text)
    by true is h more =
        let v_is : row.0 ≡ v = cc in (
          0,
          omega arith,
          ap (λ (x : List ℕ). (row.0, x)) (sym (same text row.1 is))
              ∙ ap (λ (a : A). (a, text)) v_is,
        )
    by false is h more = let c = more h in (suc c.0, omega (arith, c.1), c.2)

pub found_missing : {A : Type 0} (rows : List (A × List ℕ)) (text : List ℕ) (v : A)
    → found_in rows text ≡ None → Contains rows (v, text) → ⊥
found_missing [] text v e (i, lt, at) = absurd (omega (arith, lt))
found_missing {A = A} (row ∷ rows) text v e (zero, lt, at) =
    let is : bytes_eq text row.1 ≡ true =
    equal text row.1 (sym (ap (λ (r : A × List ℕ). r.1) at)) in
    let h : cond true (Some row.0) (found_in rows text) ≡ None =
    ap (λ (t : Bool). cond t (Some row.0) (found_in rows text)) (sym is) ∙ e in
    cc
found_missing {A = A} (row ∷ rows) text v e (suc i, lt, at) =
    by (bytes_eq text row.1) refl e (λ h. found_missing rows text v h (i, omega (arith, lt), at))
  where
    by : (t : Bool) → bytes_eq text row.1 ≡ t → cond t (Some row.0) (found_in rows text) ≡ None
        → (found_in rows text ≡ None → ⊥) → ⊥
    by true is h more = cc
    by false is h more = more h

-- no text stands in the table twice
unfoldable pub distinct : {A : Type 0} → List (A × List ℕ) → Bool
distinct [] = true
distinct (r ∷ rows) = not (list_any (λ s. bytes_eq r.1 s.1) rows) && distinct rows

any_there : {A : Type 0} (t : List ℕ) (rows : List (A × List ℕ)) (v : A) → Contains rows (v, t)
    → list_any (λ s. bytes_eq t s.1) rows ≡ true
any_there t [] v (i, lt, e) = absurd (omega (arith, lt))
any_there {A = A} t (r ∷ rows) v (zero, lt, e) =
    rw (equal t r.1 (sym (ap (λ (x : A × List ℕ). x.1) e))) refl
any_there {A = A} t (r ∷ rows) v (suc i, lt, e) =
    rw (any_there t rows v (i, omega (arith, lt), e)) (or_right (bytes_eq t r.1))

not_true : (v : Bool) → not v ≡ true → v ≡ true → ⊥
not_true true a b = cc
not_true false a b = cc

pub found_row : {A : Type 0} (rows : List (A × List ℕ)) (text : List ℕ) (v : A)
    → distinct rows ≡ true → Contains rows (v, text) → found_in rows text ≡ Some v
unfolding distinct
found_row [] text v d (i, lt, e) = absurd (omega (arith, lt))
found_row {A = A} (r ∷ rows) text v d (zero, lt, e) =
    rw (equal text r.1 (sym (ap (λ (x : A × List ℕ). x.1) e))) (ap (λ (x : A × List ℕ). Some x.0) e)
found_row {A = A} (r ∷ rows) text v d (suc i, lt, e) =
    let parts = both (not (list_any (λ s. bytes_eq r.1 s.1) rows)) (distinct rows) d in
    let there : Contains rows (v, text) = (i, omega (arith, lt), e) in
    let other : bytes_eq text r.1 ≡ false =
    false_by (bytes_eq text r.1)
    (λ h. not_true (list_any (λ s. bytes_eq r.1 s.1) rows) parts.0
    (ap (λ (x : List ℕ). list_any (λ s. bytes_eq x s.1) rows) (sym (same text r.1 h))
    ∙ any_there text rows v there)) in
    rw other (found_row rows text v parts.1 there)

-- two rows of one text are one
pub one_row : {A : Type 0} (rows : List (A × List ℕ)) (text : List ℕ) (v w : A)
    → distinct rows ≡ true → Contains rows (v, text) → Contains rows (w, text) → v ≡ w
one_row rows text v w d x y = let e : Some v ≡ Some w =
    sym (found_row rows text v d x) ∙ found_row rows text w d y in cc
