-- Places of names in lists.
use Rattle.std.proofs.Common.{◌≡◌, ◌∙◌, ℕ, zero, suc, ◌+◌, ◌<◌, ◌≤◌, Bool, true, false, List, [], ◌∷◌}
use Rattle.std.proofs.Common.{length, get_or, Option, Some, None, arith, ap, sym, refl, true≢false}
use Rattle.std.proofs.Common.{inl, inr, cond}
use Rattle.std.specs.List.{position_from, list_any}
use Rattle.std.proofs.lemmas.List.{get_or_default}
use Rattle.std.proofs.lemmas.List.Elements.{Contains-get_or}
use Rattle.std.proofs.lemmas.Slice.Eq.{bytes_eq-Decides}
use Rattle.iec_tables.specs.Words.{raised_all}
use Rattle.type_parts.specs.Places.{is_name, has_twice}
use Rattle.type_parts.proofs.Members.{passing, passes, either, first, second}

abbrev pub at : List (List ℕ) → ℕ → List ℕ
at names p = get_or names p []

pub nowhere : (test : List ℕ → Bool) (k : ℕ) (names : List (List ℕ))
    → ((p : ℕ) → p < length names → test (at names p) ≡ false) → position_from test k names ≡ None
nowhere test k [] h = refl
nowhere test k (x ∷ xs) h =
    rw (h 0 (omega arith)) (nowhere test (k + 1) xs (λ p l. h (suc p) (omega arith)))

pub first_at : (test : List ℕ → Bool) (k : ℕ) (names : List (List ℕ)) (p : ℕ) → p < length names
    → test (at names p) ≡ true → ((q : ℕ) → q < p → test (at names q) ≡ false)
    → position_from test k names ≡ Some (k + p)
first_at test k [] p l h b = absurd (omega arith)
first_at test k (x ∷ xs) zero l h b = rw h (ap Some (omega arith))
first_at test k (x ∷ xs) (suc p) l h b =
    rw (b 0 (omega arith)) (first_at test (k + 1) xs p (omega arith) h (λ q m. b (suc q) (omega arith))
    ∙ ap Some (omega arith))

abbrev pub FoundBefore : (List ℕ → Bool) → List (List ℕ) → ℕ → ℕ → Option ℕ → Type 0
FoundBefore test names k p found =
    (q : ℕ) × (q ≤ p) × (test (at names q) ≡ true) × (found ≡ Some (k + q))

step : (test : List ℕ → Bool) (k : ℕ) (x : List ℕ) (xs : List (List ℕ)) (p : ℕ)
    → FoundBefore test xs (k + 1) p (position_from test (k + 1) xs) → (b : Bool) → test x ≡ b
    → FoundBefore test (x ∷ xs) k (suc p) (cond b (Some k) (position_from test (k + 1) xs))
step test k x xs p later true e = (0, omega arith, e, ap Some (omega arith))
step test k x xs p later false e =
    (suc later.0, omega (arith, later.1), later.2, later.3 ∙ ap Some (omega arith))

-- what passes at a place is found there or before it
pub found_before : (test : List ℕ → Bool) (k : ℕ) (names : List (List ℕ)) (p : ℕ) → p < length names
    → test (at names p) ≡ true → FoundBefore test names k p (position_from test k names)
found_before test k [] p l h = absurd (omega arith)
found_before test k (x ∷ xs) zero l h = (0, omega arith, h, rw h (ap Some (omega arith)))
found_before test k (x ∷ xs) (suc p) l h =
    step test k x xs p (found_before test (k + 1) xs p (omega arith) h) (test x) refl

-- ---- names that stand twice

pub raised_same : (name x : List ℕ) → is_name name x ≡ true → raised_all x ≡ raised_all name
raised_same name x h = (bytes_eq-Decides (raised_all x) (raised_all name)).0 h

pub same_raised : (name x : List ℕ) → raised_all x ≡ raised_all name → is_name name x ≡ true
same_raised name x h = (bytes_eq-Decides (raised_all x) (raised_all name)).1 h

pub twice_by_two : (names : List (List ℕ)) (q p : ℕ) → q < p → p < length names
    → is_name (at names p) (at names q) ≡ true → has_twice names ≡ true
unfolding has_twice
twice_by_two [] q p l m h = absurd (omega arith)
twice_by_two (x ∷ xs) q zero l m h = absurd (omega arith)
twice_by_two (x ∷ xs) zero (suc p) l m h =
    first (list_any (is_name x) xs) (has_twice xs)
    (passes (is_name x) xs (at xs p) (Contains-get_or xs p [] (omega arith))
    (same_raised x (at xs p) (sym (raised_same (at xs p) x h))))
twice_by_two (x ∷ xs) (suc q) (suc p) l m h =
    second (list_any (is_name x) xs) (has_twice xs)
    (twice_by_two xs q p (omega arith) (omega arith) h)

abbrev pub TwoAlike : List (List ℕ) → Type 0
TwoAlike names =
    (q : ℕ) × (p : ℕ) × (q < p) × (p < length names) × (is_name (at names p) (at names q) ≡ true)

pub two_by_twice : (names : List (List ℕ)) → has_twice names ≡ true → TwoAlike names
unfolding has_twice
two_by_twice [] h = absurd (true≢false (sym h))
two_by_twice (x ∷ xs) h =
    elim (either (list_any (is_name x) xs) (has_twice xs) h) as (λ _. TwoAlike (x ∷ xs)) [
      | inl e ↦ let other = passing (is_name x) xs e in
          let k = other.1.0 in
          let there : at xs k ≡ other.0 = get_or_default xs k [] other.0 other.1.1 ∙ other.1.2 in (
            0,
            suc k,
            omega arith,
            omega (arith, other.1.1),
            same_raised (at xs k) x (sym (ap raised_all there ∙ raised_same x other.0 other.2)),
          )
      | inr e ↦ let inner = two_by_twice xs e in
          (suc inner.0, suc inner.1, omega (arith, inner.2), omega (arith, inner.3), inner.4)
    ]
