-- What a search in a table of words says of what the words name.
use Rattle.std.proofs.Common.{◌≡◌, ℕ, zero, suc, ◌+◌, ◌<◌, Bool, true, false, cond, ◌||◌, ◌↔◌, ◌⊎◌, inl, inr, List, [], ◌∷◌, length, get_or, map, IsTrue, MatchOption, Some, None, arith, ap, ◌∙◌, sym, subst, refl, true≢false}
use Rattle.std.specs.Prelude.{Option}
use Rattle.std.specs.List.{Contains, AllByRecursion, slice_get}
use Rattle.std.specs.Option.{is_some}
use Rattle.std.specs.Str.{bytes_eq}
use Rattle.std.proofs.lemmas.Slice.Eq.{bytes_eq-Decides}
use Rattle.std.proofs.lemmas.Option.{slice_get-get_or}
use Rattle.std.proofs.lemmas.List.{length-map, get_or-map}
use Rattle.std.proofs.lemmas.List.FromFn.{get_or-range_with_len}
use Rattle.std.proofs.lemmas.List.Elements.{All-from_recursion}
use Rattle.iec_tables.specs.declared.words.Word.{Word}
use Rattle.iec_tables.specs.Words.{HasRow, HasNoRow, first_numbers}

abbrev pub texts : List Word → List (List ℕ)
texts rows = map (λ row. row.text.now) rows

further : (row w : Word) (rows : List Word) → Contains rows w → Contains (row ∷ rows) w
further row w rows (k, l, e) = (suc k, omega arith, e)

-- ---- tables of names

at-row : (rows : List Word) (k : ℕ) (s : List ℕ) → k < length (texts rows) → get_or (texts rows) k s ≡ s → HasNoRow rows s → ⊥
at-row [] k s l e n = absurd (omega arith)
at-row (row ∷ rows) zero s l e n = n row (0, omega arith, refl) e
at-row (row ∷ rows) (suc k) s l e n = at-row rows k s (omega arith) e (λ w c. n w (further row w rows c))

text-there : (rows : List Word) (k : ℕ) (row : Word) → k < length rows → get_or rows k row ≡ row → Contains (texts rows) row.text.now
text-there [] k row l e = absurd (omega arith)
text-there (first ∷ rows) zero row l e = (0, omega arith, ap (λ (w : Word). w.text.now) e)
text-there (first ∷ rows) (suc k) row l e =
    let inner = text-there rows k row (omega arith) e in
    (suc inner.0, omega (arith, inner.1), inner.2)

-- whether a search finds a row is whether its names have the text
pub member : (rows : List Word) (r : Option ℕ) (s : List ℕ) → MatchOption r (HasNoRow rows s) (HasRow rows s) → IsTrue (is_some r) ↔ Contains (texts rows) s
member rows None s h = (λ e. absurd (true≢false (sym e)), λ (k, l, e). absurd (at-row rows k s l e h))
member rows (Some n) s h =
    (λ _. subst (Contains (texts rows)) h.text_is (text-there rows h.there.0 h.row h.there.1 h.there.2), λ _. refl)

pub member_named : (rows : List Word) (names : List (List ℕ)) → texts rows ≡ names → (r : Option ℕ) (s : List ℕ) → MatchOption r (HasNoRow rows s) (HasRow rows s)
    → (b : Bool) → b ≡ is_some r → IsTrue b ↔ Contains names s
member_named rows names e r s h b is =
    let all = member rows r s h in (
      λ t. subst (λ (ns : List (List ℕ)). Contains ns s) e (all.0 (sym is ∙ t)),
      λ k. is ∙ all.1 (subst (λ (ns : List (List ℕ)). Contains ns s) (sym e) k),
    )

-- ---- tables of values

-- some of the names is the text
abbrev pub among : List (List ℕ) → List ℕ → Bool
among [] t = false
among (name ∷ names) t = bytes_eq name t || among names t

or-cases : {A : Type 0} (a b : Bool) → (a || b) ≡ true → (a ≡ true → A) → (b ≡ true → A) → A
or-cases true b h f g = f refl
or-cases false b h f g = g h

listed : (names : List (List ℕ)) (t : List ℕ) → among names t ≡ true → Contains names t
listed [] t h = absurd (true≢false (sym h))
listed (name ∷ names) t h =
    or-cases (bytes_eq name t) (among names t) h
    (λ e. (0, omega arith, (bytes_eq-Decides name t).0 e))
    (λ e. let inner = listed names t e in (suc inner.0, omega (arith, inner.1), inner.2))

-- the first of the values that is spelled so
abbrev pub pick : {V : Type 0} → (V → List ℕ) → V → List V → List ℕ → V
pick text d [] t = d
pick text d (v ∷ vs) t = cond (bytes_eq (text v) t) v (pick text d vs t)

module _ {V : Type 0} (text : V → List ℕ) (Is : V → Type 0) where
  -- what is found, or that there is nothing to find
  abbrev pub IsAnswer : Option V → List ℕ → Type 0
  IsAnswer r s = MatchOption r ((v : V) → Is v → ¬ (text v ≡ s)) (λ v. Is v × (text v ≡ s))

  pub exact : ((a b : V) → Is a → Is b → text a ≡ text b → a ≡ b) → (r : Option V) (s : List ℕ) → IsAnswer r s
      → (v : V) → (r ≡ Some v) ↔ (Is v × (text v ≡ s))
  exact inj None s h v = (λ e. cc, λ k. absurd (h v k.0 k.1))
  exact inj (Some w) s h v = (
    λ e. let e' : w ≡ v = cc in subst (λ (u : V). Is u × (text u ≡ s)) e' h,
    λ k. ap Some (inj w v h.0 k.0 (h.1 ∙ sym k.1)),
  )

  pub answered : (r : Option V) (s : List ℕ) → ((v : V) → (r ≡ Some v) ↔ (Is v × (text v ≡ s))) → IsAnswer r s
  answered None s h = λ v is e. let wrong : None ≡ Some v = (h v).1 (is, e) in cc
  answered (Some w) s h = (h w).0 refl

  pub alike : (d : V) (values : List V) → ((v : V) → Is v → pick text d values (text v) ≡ v) → (a b : V) → Is a → Is b → text a ≡ text b → a ≡ b
  alike d values back a b is js e = sym (back a is) ∙ ap (pick text d values) e ∙ back b js

  module _ (values : List V) (rows : List Word) (names : texts rows ≡ map text values) where
    pub found : (d : V) → AllByRecursion Is values → map (λ row. row.number) rows ≡ first_numbers (length values)
        → (s : List ℕ) (n : ℕ) → HasRow rows s n → (r : Option V) → r ≡ slice_get values n → IsAnswer r s
    found d all numbers s n has r e =
        let k = has.there.0 in
        let row = has.row in
        let as_long : length rows ≡ length values = sym (length-map rows (λ (w : Word). w.text.now)) ∙ ap length names ∙ length-map values text in
        let inside : k < length values = omega (arith, has.there.1) in
        let number : row.number ≡ 0 + k =
        ap (λ (w : Word). w.number) (sym has.there.2) ∙ sym (get_or-map (λ (w : Word). w.number) rows k row 0 has.there.1)
        ∙ ap (λ ns. get_or ns k 0) numbers ∙ get_or-range_with_len 0 (length values) k 0 inside in
        let at : k ≡ n = omega (arith, has.number_is, number) in
        let within : n < length values = omega arith in
        let v = get_or values n d in
        let spelled : text v ≡ s =
        sym (get_or-map text values n d s within) ∙ ap (λ ns. get_or ns n s) (sym names)
        ∙ ap (λ i. get_or (texts rows) i s) (sym at) ∙ get_or-map (λ (w : Word). w.text.now) rows k row s has.there.1
        ∙ ap (λ (w : Word). w.text.now) has.there.2 ∙ has.text_is in
        let named : slice_get values n ≡ Some v = slice_get-get_or values n d within in
        let is : Is v = All-from_recursion Is values all n d within in
        subst (λ (o : Option V). IsAnswer o s) (sym (e ∙ named)) (is, spelled)

    pub missed : ((v : V) → Is v → among (map text values) (text v) ≡ true) → (s : List ℕ) → HasNoRow rows s → (v : V) → Is v → ¬ (text v ≡ s)
    missed all s none v is e =
        let there : Contains (texts rows) s = subst (λ (ns : List (List ℕ)). Contains ns s) (sym names) (subst (Contains (map text values)) e (listed (map text values) (text v) (all v is))) in
        at-row rows there.0 s there.1 there.2 none

-- ---- whether there is an answer

pub there : {V : Type 0} (P : V → Type 0) (r : Option V) → ((v : V) → (r ≡ Some v) ↔ P v) → is_some r ≡ true → (v : V) × P v
there P None h e = absurd (true≢false (sym e))
there P (Some v) h e = (v, (h v).0 refl)

pub not-there : {V : Type 0} (P : V → Type 0) (r : Option V) → ((v : V) → (r ≡ Some v) ↔ P v) → is_some r ≡ false → (v : V) → ¬ (P v)
not-there P None h e v is = let wrong : None ≡ Some v = (h v).1 is in cc
not-there P (Some w) h e v is = absurd (true≢false e)

-- the first of two holds, or it doesn't and the second decides
pub first_holds : {A B : Type 0} (b : Bool) → b ≡ true → A → IsTrue b ↔ (A ⊎ B)
first_holds b e a = (λ _. inl a, λ _. e)

pub second_decides : {A B : Type 0} (b : Bool) → ¬ A → IsTrue b ↔ B → IsTrue b ↔ (A ⊎ B)
second_decides b n h = (λ t. inr (h.0 t), λ x. elim x [ inl a ↦ absurd (n a) | inr y ↦ h.1 y ])

pub not_so : {A : Type 0} (b : Bool) → IsTrue b ↔ A → b ≡ false → ¬ A
not_so b h e a = true≢false (sym (h.1 a) ∙ e)

pub some_exactly : {V : Type 0} (P : V → Type 0) (r : Option V) → ((v : V) → (r ≡ Some v) ↔ P v) → (b : Bool) → b ≡ is_some r → IsTrue b ↔ ((v : V) × P v)
some_exactly P None h b e = (λ t. absurd (true≢false (sym t ∙ e)), λ k. absurd (not-there P None h refl k.0 k.1))
some_exactly P (Some v) h b e = (λ _. there P (Some v) h refl, λ _. e)
