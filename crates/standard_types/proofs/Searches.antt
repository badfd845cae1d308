-- Members of lists, and what searches in lists of names find.
use Rattle.std.proofs.Common.{◌≡◌, ◌⊎◌, inl, inr, ℕ, zero, suc, Bool, true, false, cond, List, []}
use Rattle.std.proofs.Common.{◌∷◌, ◌++◌, map, Option, Some, None, IsTrue, true≢false}
use Rattle.std.proofs.Common.{ap, sym, refl, subst, arith, ◌∙◌}
use Rattle.std.specs.Prelude.{◌↔◌, flat_map, ◌||◌}
use Rattle.std.specs.List.{list_any, find, Contains}
use Rattle.std.specs.Option.{is_some}
use Rattle.std.specs.Str.{bytes_eq}
use Rattle.std.proofs.lemmas.Bool.Decides.{same_from_decides}
use Rattle.std.proofs.lemmas.Slice.Eq.{bytes_eq-Decides}

-- ---- members of lists

abbrev pub Among : {A : Type 0} → A → List A → Type 0
Among a [] = ⊥
Among a (x ∷ xs) = (x ≡ a) ⊎ Among a xs

pub among_left : {A : Type 0} (a : A) (xs ys : List A) → Among a xs → Among a (xs ++ ys)
among_left a [] ys h = elim h [ ]
among_left a (x ∷ xs) ys h = elim h as (λ _. Among a ((x ∷ xs) ++ ys)) [
  | inl e ↦ inl e
  | inr m ↦ inr (among_left a xs ys m)
]

pub among_right : {A : Type 0} (a : A) (xs ys : List A) → Among a ys → Among a (xs ++ ys)
among_right a [] ys h = h
among_right a (x ∷ xs) ys h = inr (among_right a xs ys h)

pub among_either : {A : Type 0} (a : A) (xs ys : List A) → Among a (xs ++ ys)
    → Among a xs ⊎ Among a ys
among_either a [] ys h = inr h
among_either a (x ∷ xs) ys h = elim h as (λ _. Among a (x ∷ xs) ⊎ Among a ys) [
  | inl e ↦ inl (inl e)
  | inr m ↦ elim (among_either a xs ys m) as (λ _. Among a (x ∷ xs) ⊎ Among a ys) [
    | inl l ↦ inl (inr l)
    | inr r ↦ inr r
  ]
]

pub among_map : {A B : Type 0} (f : A → B) (a : A) (xs : List A) → Among a xs
    → Among (f a) (map f xs)
among_map f a [] h = elim h [ ]
among_map f a (x ∷ xs) h = elim h as (λ _. Among (f a) (map f (x ∷ xs))) [
  | inl e ↦ inl (ap f e)
  | inr m ↦ inr (among_map f a xs m)
]

pub map_part : {A B : Type 0} (f : A → B) (b : B) (xs : List A) → Among b (map f xs)
    → (a : A) × Among a xs × (f a ≡ b)
map_part f b [] h = elim h [ ]
map_part {A} f b (x ∷ xs) h = elim h as (λ _. (a : A) × Among a (x ∷ xs) × (f a ≡ b)) [
  | inl e ↦ (x, inl refl, e)
  | inr m ↦ let part = map_part f b xs m in (part.0, inr part.1, part.2)
]

pub among_flat : {A B : Type 0} (f : A → List B) (a : A) (b : B) (xs : List A) → Among a xs
    → Among b (f a) → Among b (flat_map f xs)
among_flat f a b [] h k = elim h [ ]
among_flat {B = B} f a b (x ∷ xs) h k = elim h as (λ _. Among b (flat_map f (x ∷ xs))) [
  | inl e ↦ among_left b (f x) (flat_map f xs) (subst (λ y. Among b (f y)) (sym e) k)
  | inr m ↦ among_right b (f x) (flat_map f xs) (among_flat f a b xs m k)
]

pub flat_part : {A B : Type 0} (f : A → List B) (b : B) (xs : List A) → Among b (flat_map f xs)
    → (a : A) × Among a xs × Among b (f a)
flat_part f b [] h = elim h [ ]
flat_part {A} f b (x ∷ xs) h =
    elim (among_either b (f x) (flat_map f xs) h)
    as (λ _. (a : A) × Among a (x ∷ xs) × Among b (f a)) [
      | inl e ↦ (x, inl refl, e)
      | inr m ↦ let part = flat_part f b xs m in (part.0, inr part.1, part.2)
    ]

pub among_contains : {A : Type 0} (a : A) (xs : List A) → Contains xs a → Among a xs
among_contains a [] (k, l, e) = absurd (omega arith)
among_contains a (x ∷ xs) (zero, l, e) = inl e
among_contains a (x ∷ xs) (suc k, l, e) = inr (among_contains a xs (k, omega arith, e))

pub contains_among : {A : Type 0} (a : A) (xs : List A) → Among a xs → Contains xs a
contains_among a [] h = elim h [ ]
contains_among a (x ∷ xs) h = elim h as (λ _. Contains (x ∷ xs) a) [
  | inl e ↦ (0, omega arith, e)
  | inr m ↦ let inner = contains_among a xs m in (suc inner.0, omega (arith, inner.1), inner.2)
]

-- ---- whether a name is among some

or_right : (b : Bool) → (b || true) ≡ true
or_right true = refl
or_right false = refl

or_cases : (a b : Bool) → (a || b) ≡ true → (a ≡ true) ⊎ (b ≡ true)
or_cases true b h = inl refl
or_cases false b h = inr h

found : (s : List ℕ) (names : List (List ℕ)) → Among s names → list_any (bytes_eq s) names ≡ true
found s [] h = elim h [ ]
found s (x ∷ xs) h = elim h as (λ _. list_any (bytes_eq s) (x ∷ xs) ≡ true) [
  | inl e ↦ ap (λ b. b || list_any (bytes_eq s) xs) ((bytes_eq-Decides s x).1 (sym e))
  | inr m ↦ ap (λ b. bytes_eq s x || b) (found s xs m) ∙ or_right (bytes_eq s x)
]

listed : (s : List ℕ) (names : List (List ℕ)) → list_any (bytes_eq s) names ≡ true → Among s names
listed s [] h = absurd (true≢false (sym h))
listed s (x ∷ xs) h =
    elim (or_cases (bytes_eq s x) (list_any (bytes_eq s) xs) h) as (λ _. Among s (x ∷ xs)) [
      | inl e ↦ inl (sym ((bytes_eq-Decides s x).0 e))
      | inr e ↦ inr (listed s xs e)
    ]

-- an answer that says whether the name has a property that some names have
pub tested : {P : Type 0} (s : List ℕ) (names : List (List ℕ)) (r : Bool) → (IsTrue r ↔ P)
    → (P → Among s names) → (Among s names → P) → r ≡ list_any (bytes_eq s) names
tested s names r h to from =
    same_from_decides r (list_any (bytes_eq s) names) (h.0, h.1)
    (λ e. from (listed s names e), λ p. found s names (to p))

-- ---- what has a name

module _ {V : Type 0} (name_of : V → List ℕ) (s : List ℕ) where
  abbrev pub has : V → Bool
  has v = bytes_eq s (name_of v)

  some_with : (b : Bool) (v : V) (o : Option V) (t : Bool) → is_some o ≡ t
      → is_some (cond b (Some v) o) ≡ (b || t)
  some_with true v o t h = refl
  some_with false v o t h = h

  pub is_some_find : (xs : List V) → is_some (find has xs) ≡ list_any (bytes_eq s) (map name_of xs)
  is_some_find [] = refl
  is_some_find (x ∷ xs) =
      some_with (has x) x (find has xs) (list_any (bytes_eq s) (map name_of xs)) (is_some_find xs)

  first_or_later : (b : Bool) (x : V) (o : Option V) (v : V) → cond b (Some x) o ≡ Some v
      → ((b ≡ true) × (x ≡ v)) ⊎ (o ≡ Some v)
  first_or_later true x o v h = inl (refl, cc)
  first_or_later false x o v h = inr h

  neither : (b : Bool) (x : V) (o : Option V) → cond b (Some x) o ≡ None → (b ≡ false) × (o ≡ None)
  neither true x o h = cc
  neither false x o h = (refl, h)

  find_some : (xs : List V) (v : V) → find has xs ≡ Some v → Among v xs × (name_of v ≡ s)
  find_some [] v h = cc
  find_some (x ∷ xs) v h =
      elim (first_or_later (has x) x (find has xs) v h)
      as (λ _. Among v (x ∷ xs) × (name_of v ≡ s)) [
        | inl e ↦ (inl e.1, sym (ap name_of e.1) ∙ sym ((bytes_eq-Decides s (name_of x)).0 e.0))
        | inr e ↦ let later = find_some xs v e in (inr later.0, later.1)
      ]

  find_none : (xs : List V) (v : V) → find has xs ≡ None → Among v xs → ¬ (name_of v ≡ s)
  find_none [] v h m e = elim m [ ]
  find_none (x ∷ xs) v h m e =
      let none = neither (has x) x (find has xs) h in
      elim m as (λ _. ⊥) [
        | inl i ↦ true≢false
            (sym ((bytes_eq-Decides s (name_of x)).1 (sym (ap name_of i ∙ e))) ∙ none.0)
        | inr later ↦ find_none xs v none.1 later e
      ]

  no_other : (r : Option V) → ((v : V) → ¬ (r ≡ Some v)) → r ≡ None
  no_other None h = refl
  no_other (Some w) h = absurd (h w refl)

  -- an answer that is each thing of that name is the first one of a list that has them all
  pub picked : (Is : V → Type 0) (xs : List V) (r : Option V) → ((v : V) → Is v → Among v xs)
      → ((v : V) → Among v xs → Is v) → ((v : V) → (r ≡ Some v) ↔ (Is v × (name_of v ≡ s)))
      → r ≡ find has xs
  picked Is xs r all only h =
      let answer : (o : Option V) → find has xs ≡ o → r ≡ o =
      λ o. elim o as (λ o. find has xs ≡ o → r ≡ o) [
        | Some v ↦ λ e. let first = find_some xs v e in (h v).1 (only v first.0, first.1)
        | None ↦ λ e. no_other r (λ v i. let is = (h v).0 i in find_none xs v e (all v is.0) is.1)
      ] in
      answer (find has xs) refl
