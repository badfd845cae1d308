-- What stands behind the `%` of an address.
use Rattle.std.proofs.Common.{◌≡◌, ℕ, zero, suc, ◌+◌, ◌≤◌, Bool, true, false, cond, not, ◌&&◌, ◌||◌, ◌⊎◌, inl, inr, List, [], ◌∷◌, ◌++◌, length, map, take, drop, codes, Some, None, refl, sym, ap, subst, ◌∙◌, arith}
use Rattle.std.specs.Prelude.{nat_eq}
use Rattle.std.specs.List.{list_all, Contains}
use Rattle.std.proofs.lemmas.Bool.{eqb-true}
use Rattle.std.proofs.lemmas.Bool.Decides.{nat_tests}
use Rattle.iec_tables.specs.Letters.{raised}
use Rattle.st_lexer.specs.Bytes.{is_digit, begins, is_spaced, is_joined}
use Rattle.st_lexer.specs.Texts.{IsAddress}
use Rattle.st_lexer.specs.Front.{numbers_length, numbers_at, is_area, is_size, address_at, longer}
use Rattle.st_lexer.proofs.Tests.{both, clash}
use Rattle.st_lexer.proofs.Spaced.{joined, is_joined_by}
use Rattle.st_lexer.proofs.Runs.{cons_first, cons_rest}
use Rattle.st_lexer.proofs.Leads.{each_row}
use Rattle.st_lexer.proofs.Numerals.{longer_some}

-- ---- numbers that are joined by dots

abbrev goes : ℕ → List ℕ → Bool
goes b bs = is_digit b || (nat_eq b 46 && begins is_digit bs)

abbrev digit_or_dot : ℕ → Bool
digit_or_dot b = is_digit b || nat_eq b 46

pub record Numbers (bytes : List ℕ) : Type 0 where
  pub within : numbers_length bytes ≤ length bytes
  pub all : list_all digit_or_dot (take (numbers_length bytes) bytes) ≡ true
  pub spaced : is_spaced 46 (take (numbers_length bytes) bytes) ≡ true
  pub first : begins is_digit bytes ≡ true → begins is_digit (take (numbers_length bytes) bytes) ≡ true

goes_digit_or_dot : (b : ℕ) (bs : List ℕ) (u v w : Bool) → is_digit b ≡ u → nat_eq b 46 ≡ v → begins is_digit bs ≡ w → (u || (v && w)) ≡ true → digit_or_dot b ≡ true
goes_digit_or_dot b bs true v w e1 e2 e3 h = rw e1 refl
goes_digit_or_dot b bs false true w e1 e2 e3 h = rw (e1, e2) refl
goes_digit_or_dot b bs false false w e1 e2 e3 h = absurd cc

-- behind a dot that goes on stands a digit
dot_then : (b : ℕ) (bs : List ℕ) → goes b bs ≡ true → nat_eq b 46 ≡ true → begins is_digit bs ≡ true
dot_then b bs g d = by (begins is_digit bs) refl
  where
    dot_no_digit : is_digit b ≡ false
    dot_no_digit = grind (arith, nat_tests)

    by : (w : Bool) → begins is_digit bs ≡ w → begins is_digit bs ≡ true
    by true e = e
    by false e = absurd (clash (goes b bs) g (rw (dot_no_digit, d, e) refl))

digit_no_dot : (b : ℕ) → is_digit b ≡ true → nat_eq b 46 ≡ false
digit_no_dot b e = grind (arith, nat_tests)

spaced_cons : (b : ℕ) (xs : List ℕ) → is_spaced 46 xs ≡ true → (nat_eq b 46 ≡ true → begins is_digit xs ≡ true) → is_spaced 46 (b ∷ xs) ≡ true
spaced_cons b [] h d = by (nat_eq b 46) refl
  where
    by : (v : Bool) → nat_eq b 46 ≡ v → not v ≡ true
    by true e = absurd (no_first (d e))
      where
        no_first : begins is_digit [] ≡ true → ⊥
        no_first x = cc
    by false e = refl
spaced_cons b (x ∷ xs) h d = by (nat_eq b 46) refl
  where
    by : (v : Bool) → nat_eq b 46 ≡ v → (not (v && nat_eq x 46) && is_spaced 46 (x ∷ xs)) ≡ true
    by true e = rw (digit_no_dot x (d e)) h
    by false e = h

numbers_by : (b : ℕ) (bs : List ℕ) (v : Bool) → goes b bs ≡ v → Numbers bs
    → (cond v (suc (numbers_length bs)) 0 ≤ suc (length bs)) × (list_all digit_or_dot (take (cond v (suc (numbers_length bs)) 0) (b ∷ bs)) ≡ true) × (is_spaced 46 (take (cond v (suc (numbers_length bs)) 0) (b ∷ bs)) ≡ true)
    × (begins is_digit (b ∷ bs) ≡ true → begins is_digit (take (cond v (suc (numbers_length bs)) 0) (b ∷ bs)) ≡ true)
numbers_by b bs true g n = (
  omega (arith, n.within),
  rw (goes_digit_or_dot b bs (is_digit b) (nat_eq b 46) (begins is_digit bs) refl refl refl g) n.all,
  spaced_cons b (take (numbers_length bs) bs) n.spaced (λ d. n.first (dot_then b bs g d)),
  λ h. h,
)
numbers_by b bs false g n = (omega arith, refl, refl, λ h. absurd (clash (goes b bs) (rw h refl) g))

pub numbers : (bytes : List ℕ) → Numbers bytes
unfolding numbers_length
numbers [] = record { within = omega arith; all = refl; spaced = refl; first = λ h. h }
numbers (b ∷ bs) = let r = numbers_by b bs (goes b bs) refl (numbers bs) in record { within = r.0; all = r.1; spaced = r.2; first = r.3 }

-- numbers that stand there are no longer
begins_front : (test : ℕ → Bool) (xs rest : List ℕ) → begins test xs ≡ true → begins test (xs ++ rest) ≡ true
begins_front test [] rest e = absurd cc
begins_front test (x ∷ xs) rest e = e

dot_or : (b : ℕ) (u v : Bool) → is_digit b ≡ u → nat_eq b 46 ≡ v → (u || v) ≡ true → (is_digit b ≡ true) ⊎ (nat_eq b 46 ≡ true)
dot_or b true v e1 e2 h = inl e1
dot_or b false true e1 e2 h = inr e2
dot_or b false false e1 e2 h = absurd cc

spaced_rest : (b : ℕ) (xs : List ℕ) → is_spaced 46 (b ∷ xs) ≡ true → is_spaced 46 xs ≡ true
spaced_rest b [] e = refl
spaced_rest b (x ∷ xs) e = (both (not (nat_eq b 46 && nat_eq x 46)) (is_spaced 46 (x ∷ xs)) e).1

dot_digit : (b : ℕ) (xs : List ℕ) → is_spaced 46 (b ∷ xs) ≡ true → list_all digit_or_dot xs ≡ true → nat_eq b 46 ≡ true → begins is_digit xs ≡ true
dot_digit b [] e all d = absurd (no_end (nat_eq b 46) d e)
  where
    no_end : (v : Bool) → v ≡ true → not v ≡ true → ⊥
    no_end true x y = cc
    no_end false x y = cc
dot_digit b (x ∷ xs) e all d = by (dot_or x (is_digit x) (nat_eq x 46) refl refl (both (digit_or_dot x) (list_all digit_or_dot xs) all).0)
  where
    by : (is_digit x ≡ true) ⊎ (nat_eq x 46 ≡ true) → is_digit x ≡ true
    by (inl h) = h
    by (inr h) = absurd (two (nat_eq b 46) (nat_eq x 46) d h (both (not (nat_eq b 46 && nat_eq x 46)) (is_spaced 46 (x ∷ xs)) e).0)
      where
        two : (u v : Bool) → u ≡ true → v ≡ true → not (u && v) ≡ true → ⊥
        two true true a c k = cc
        two true false a c k = cc
        two false v a c k = cc

pub numbers_longest : (xs rest : List ℕ) → list_all digit_or_dot xs ≡ true → is_spaced 46 xs ≡ true → length xs ≤ numbers_length (xs ++ rest)
unfolding numbers_length
numbers_longest [] rest all spaced = omega arith
numbers_longest (b ∷ xs) rest all spaced =
    let parts = both (digit_or_dot b) (list_all digit_or_dot xs) all in
    let more = numbers_longest xs rest parts.1 (spaced_rest b xs spaced) in
    let on : goes b (xs ++ rest) ≡ true = by (dot_or b (is_digit b) (nat_eq b 46) refl refl parts.0) (λ d. dot_digit b xs spaced parts.1 d) in
    rw on (omega (arith, more))
  where
    by : (is_digit b ≡ true) ⊎ (nat_eq b 46 ≡ true) → (nat_eq b 46 ≡ true → begins is_digit xs ≡ true) → goes b (xs ++ rest) ≡ true
    by (inl h) d = rw h refl
    by (inr h) d = rw (h, begins_front is_digit xs rest (d h)) (or_true (is_digit b))
      where
        or_true : (v : Bool) → (v || true) ≡ true
        or_true true = refl
        or_true false = refl

-- ---- the address

abbrev area_letter : ℕ → Bool
area_letter c = nat_eq c 73 || (nat_eq c 81 || nat_eq c 77)

abbrev size_letter : ℕ → Bool
size_letter c = nat_eq c 88 || (nat_eq c 66 || (nat_eq c 87 || (nat_eq c 68 || nat_eq c 76)))

area_there : (c : ℕ) → area_letter c ≡ true → Contains (codes "IQM") c
area_there c e = by (nat_eq c 73) (nat_eq c 81) (nat_eq c 77) refl refl refl e
  where
    by : (u v w : Bool) → nat_eq c 73 ≡ u → nat_eq c 81 ≡ v → nat_eq c 77 ≡ w → (u || (v || w)) ≡ true → Contains (codes "IQM") c
    by true v w e1 e2 e3 h = (0, omega arith, sym (eqb-true c 73 e1))
    by false true w e1 e2 e3 h = (1, omega arith, sym (eqb-true c 81 e2))
    by false false true e1 e2 e3 h = (2, omega arith, sym (eqb-true c 77 e3))
    by false false false e1 e2 e3 h = absurd cc

abbrev sizes : List (List ℕ)
sizes = [] ∷ codes "X" ∷ codes "B" ∷ codes "W" ∷ codes "D" ∷ codes "L" ∷ []

size_there : (c : ℕ) → size_letter c ≡ true → Contains sizes (c ∷ [])
size_there c e = by (nat_eq c 88) (nat_eq c 66) (nat_eq c 87) (nat_eq c 68) (nat_eq c 76) refl refl refl refl refl e
  where
    one : (k : ℕ) → nat_eq c k ≡ true → k ∷ [] ≡ c ∷ []
    one k h = ap (λ (x : ℕ). x ∷ []) (sym (eqb-true c k h))

    by : (t u v w x : Bool) → nat_eq c 88 ≡ t → nat_eq c 66 ≡ u → nat_eq c 87 ≡ v → nat_eq c 68 ≡ w → nat_eq c 76 ≡ x → (t || (u || (v || (w || x)))) ≡ true → Contains sizes (c ∷ [])
    by true u v w x e1 e2 e3 e4 e5 h = (1, omega arith, one 88 e1)
    by false true v w x e1 e2 e3 e4 e5 h = (2, omega arith, one 66 e2)
    by false false true w x e1 e2 e3 e4 e5 h = (3, omega arith, one 87 e3)
    by false false false true x e1 e2 e3 e4 e5 h = (4, omega arith, one 68 e4)
    by false false false false true e1 e2 e3 e4 e5 h = (5, omega arith, one 76 e5)
    by false false false false false e1 e2 e3 e4 e5 h = absurd cc

size_cases : (size : List ℕ) → Contains sizes size → (size ≡ []) ⊎ ((c : ℕ) × (size ≡ c ∷ []) × (size_letter c ≡ true))
size_cases size (zero, lt, e) = inl (sym e)
size_cases size (suc zero, lt, e) = inr (88, sym e, refl)
size_cases size (suc (suc zero), lt, e) = inr (66, sym e, refl)
size_cases size (suc (suc (suc zero)), lt, e) = inr (87, sym e, refl)
size_cases size (suc (suc (suc (suc zero))), lt, e) = inr (68, sym e, refl)
size_cases size (suc (suc (suc (suc (suc zero)))), lt, e) = inr (76, sym e, refl)
size_cases size (suc (suc (suc (suc (suc (suc i))))), lt, e) = absurd (omega (arith, lt))

number_stays : (b : ℕ) → digit_or_dot b ≡ true → raised b ≡ b
number_stays b e = grind (arith, nat_tests)

pub numbers_stay : (xs : List ℕ) → list_all digit_or_dot xs ≡ true → map raised xs ≡ xs
numbers_stay [] h = refl
numbers_stay (x ∷ xs) h = let parts = both (digit_or_dot x) (list_all digit_or_dot xs) h in ap (λ (y : ℕ). y ∷ map raised xs) (number_stays x parts.0) ∙ ap (λ (t : List ℕ). x ∷ t) (numbers_stay xs parts.1)

number_back : (b c : ℕ) → raised b ≡ c → digit_or_dot c ≡ true → b ≡ c
number_back b c e h = grind (arith, nat_tests)

pub numbers_back : (xs ys : List ℕ) → map raised xs ≡ ys → list_all digit_or_dot ys ≡ true → xs ≡ ys
numbers_back [] [] e h = refl
numbers_back [] (y ∷ ys) e h = absurd cc
numbers_back (x ∷ xs) [] e h = absurd cc
numbers_back (x ∷ xs) (y ∷ ys) e h =
    let parts = both (digit_or_dot y) (list_all digit_or_dot ys) h in
    let first = number_back x y (cons_first (raised x) y (map raised xs) ys e) parts.0 in
    ap (λ (z : ℕ). z ∷ xs) first ∙ ap (λ (t : List ℕ). y ∷ t) (numbers_back xs ys (cons_rest (raised x) y (map raised xs) ys e) parts.1)

pub numbers_some : (bytes : List ℕ) (j : ℕ) → numbers_at bytes ≡ Some j → (j ≤ length bytes) × (is_joined is_digit 46 (take j bytes) ≡ true)
numbers_some bytes j e = by (begins is_digit bytes) refl e
  where
    by : (v : Bool) → begins is_digit bytes ≡ v → cond v (Some (numbers_length bytes)) None ≡ Some j → (j ≤ length bytes) × (is_joined is_digit 46 (take j bytes) ≡ true)
    by true h k =
        let n = numbers bytes in
        let up : numbers_length bytes ≡ j = cc in
        subst (λ (i : ℕ). (i ≤ length bytes) × (is_joined is_digit 46 (take i bytes) ≡ true)) up (n.within, is_joined_by is_digit 46 (take (numbers_length bytes) bytes) (record { first = n.first h; all = n.all; spaced = n.spaced }))
    by false h k = absurd cc

area_first : (bytes : List ℕ) → begins is_area bytes ≡ true → (a : ℕ) × (rest : List ℕ) × (bytes ≡ a ∷ rest) × (is_area a ≡ true)
area_first [] e = absurd cc
area_first (a ∷ rest) e = (a, rest, refl, e)

size_first : (bytes : List ℕ) → begins is_size bytes ≡ true → (a : ℕ) × (rest : List ℕ) × (bytes ≡ a ∷ rest) × (is_size a ≡ true)
size_first [] e = absurd cc
size_first (a ∷ rest) e = (a, rest, refl, e)

abbrev AddressHere : List ℕ → ℕ → Type 0
AddressHere bytes m = (m ≤ length bytes) × IsAddress (37 ∷ take m bytes)

address_plain : (a : ℕ) (rest : List ℕ) (m : ℕ) → is_area a ≡ true → longer 1 (numbers_at rest) ≡ Some m → AddressHere (a ∷ rest) m
address_plain a rest m is e =
    let l = longer_some 1 m (numbers_at rest) e in
    let n = numbers_some rest l.0 l.1 in
    let up : suc l.0 ≡ m = omega (arith, l.2) in
    subst (λ (k : ℕ). AddressHere (a ∷ rest) k) up (
      omega (arith, n.0),
      record {
        area = raised a;
        size = [];
        numbers = take l.0 rest;
        text_is = ap (λ (t : List ℕ). 37 ∷ raised a ∷ t) (numbers_stay (take l.0 rest) (joined is_digit 46 (take l.0 rest) n.1).all);
        is_area = area_there (raised a) is;
        is_size = (0, omega arith, refl);
        are_numbers = n.1;
      },
    )

address_sized : (a s : ℕ) (rest : List ℕ) (m : ℕ) → is_area a ≡ true → is_size s ≡ true → longer 2 (numbers_at rest) ≡ Some m → AddressHere (a ∷ s ∷ rest) m
address_sized a s rest m is is2 e =
    let l = longer_some 2 m (numbers_at rest) e in
    let n = numbers_some rest l.0 l.1 in
    let up : suc (suc l.0) ≡ m = omega (arith, l.2) in
    subst (λ (k : ℕ). AddressHere (a ∷ s ∷ rest) k) up (
      omega (arith, n.0),
      record {
        area = raised a;
        size = raised s ∷ [];
        numbers = take l.0 rest;
        text_is = ap (λ (t : List ℕ). 37 ∷ raised a ∷ raised s ∷ t) (numbers_stay (take l.0 rest) (joined is_digit 46 (take l.0 rest) n.1).all);
        is_area = area_there (raised a) is;
        is_size = size_there (raised s) is2;
        are_numbers = n.1;
      },
    )

pub address_some : (bytes : List ℕ) (m : ℕ) → address_at bytes ≡ Some m → AddressHere bytes m
unfolding address_at
address_some bytes m e = by (begins is_area bytes) (begins is_size (drop 1 bytes)) refl refl e
  where
    by : (u v : Bool) → begins is_area bytes ≡ u → begins is_size (drop 1 bytes) ≡ v → cond u (cond v (longer 2 (numbers_at (drop 2 bytes))) (longer 1 (numbers_at (drop 1 bytes)))) None ≡ Some m → AddressHere bytes m
    by true true e1 e2 h =
        let a = area_first bytes e1 in
        let s = size_first (drop 1 bytes) e2 in
        let rest_is : a.1 ≡ s.0 ∷ s.1 = ap (drop 1) (sym a.2) ∙ s.2 in
        let whole : bytes ≡ a.0 ∷ s.0 ∷ s.1 = a.2 ∙ ap (λ (t : List ℕ). a.0 ∷ t) rest_is in
        subst (λ (t : List ℕ). AddressHere t m) (sym whole) (address_sized a.0 s.0 s.1 m a.3 s.3 (ap (λ (t : List ℕ). longer 2 (numbers_at (drop 2 t))) (sym whole) ∙ h))
    by true false e1 e2 h =
        let a = area_first bytes e1 in
        subst (λ (t : List ℕ). AddressHere t m) (sym a.2) (address_plain a.0 a.1 m a.3 (ap (λ (t : List ℕ). longer 1 (numbers_at (drop 1 t))) (sym a.2) ∙ h))
    by false v e1 e2 h = absurd cc

-- ---- an address that stands there

pub numbers_read : (xs rest : List ℕ) → is_joined is_digit 46 xs ≡ true → numbers_at (xs ++ rest) ≡ Some (numbers_length (xs ++ rest))
numbers_read xs rest e = rw (begins_front is_digit xs rest (joined is_digit 46 xs e).first) refl

digit_no_size : (xs rest : List ℕ) → begins is_digit xs ≡ true → begins is_size (xs ++ rest) ≡ false
digit_no_size [] rest e = absurd cc
digit_no_size (x ∷ xs) rest e = no_size x e
  where
    no_size : (x : ℕ) → is_digit x ≡ true → is_size x ≡ false
    no_size x h = grind (arith, nat_tests)

abbrev Reads : List ℕ → List ℕ → Type 0
Reads bytes text = (m : ℕ) × (address_at bytes ≡ Some m) × (length text ≤ suc m)

area_is : (c : ℕ) → Contains (codes "IQM") c → area_letter c ≡ true
area_is c h = each_row area_letter (codes "IQM") c refl h

reads_plain : (bytes : List ℕ) (p a : ℕ) (t2 rest : List ℕ) → bytes ≡ a ∷ (t2 ++ rest) → area_letter (raised a) ≡ true → is_joined is_digit 46 t2 ≡ true → Reads bytes (p ∷ a ∷ t2)
unfolding address_at
reads_plain bytes p a t2 rest e is n =
    let j = joined is_digit 46 t2 n in
    let first : begins is_area bytes ≡ true = ap (begins is_area) e ∙ is in
    let second : begins is_size (drop 1 bytes) ≡ false = ap (λ (t : List ℕ). begins is_size (drop 1 t)) e ∙ digit_no_size t2 rest j.first in
    let third : numbers_at (drop 1 bytes) ≡ Some (numbers_length (t2 ++ rest)) = ap (λ (t : List ℕ). numbers_at (drop 1 t)) e ∙ numbers_read t2 rest n in
    let most = numbers_longest t2 rest j.all j.spaced in
    (1 + numbers_length (t2 ++ rest), rw (first, second, third) refl, omega (arith, most))

reads_sized : (bytes : List ℕ) (p a s : ℕ) (t3 rest : List ℕ) → bytes ≡ a ∷ s ∷ (t3 ++ rest) → area_letter (raised a) ≡ true → size_letter (raised s) ≡ true → is_joined is_digit 46 t3 ≡ true → Reads bytes (p ∷ a ∷ s ∷ t3)
unfolding address_at
reads_sized bytes p a s t3 rest e is is2 n =
    let j = joined is_digit 46 t3 n in
    let first : begins is_area bytes ≡ true = ap (begins is_area) e ∙ is in
    let second : begins is_size (drop 1 bytes) ≡ true = ap (λ (t : List ℕ). begins is_size (drop 1 t)) e ∙ is2 in
    let third : numbers_at (drop 2 bytes) ≡ Some (numbers_length (t3 ++ rest)) = ap (λ (t : List ℕ). numbers_at (drop 2 t)) e ∙ numbers_read t3 rest n in
    let most = numbers_longest t3 rest j.all j.spaced in
    (2 + numbers_length (t3 ++ rest), rw (first, second, third) refl, omega (arith, most))

pub address_reads : (bytes text rest : List ℕ) → 37 ∷ bytes ≡ text ++ rest → IsAddress text → Reads bytes text
address_reads bytes [] rest e a = let h = a.text_is in absurd cc
address_reads bytes (p ∷ []) rest e a = let h = cons_rest (raised p) 37 [] (a.area ∷ (a.size ++ a.numbers)) a.text_is in absurd cc
address_reads bytes (p ∷ b ∷ t2) rest e a = by (size_cases a.size a.is_size)
  where
    behind : raised b ∷ map raised t2 ≡ a.area ∷ (a.size ++ a.numbers)
    behind = cons_rest (raised p) 37 (raised b ∷ map raised t2) (a.area ∷ (a.size ++ a.numbers)) a.text_is

    area : area_letter (raised b) ≡ true
    area = ap area_letter (cons_first (raised b) a.area (map raised t2) (a.size ++ a.numbers) behind) ∙ area_is a.area a.is_area

    more : map raised t2 ≡ a.size ++ a.numbers
    more = cons_rest (raised b) a.area (map raised t2) (a.size ++ a.numbers) behind

    whole : bytes ≡ b ∷ (t2 ++ rest)
    whole = cons_rest 37 p bytes (b ∷ (t2 ++ rest)) e

    all : list_all digit_or_dot a.numbers ≡ true
    all = (joined is_digit 46 a.numbers a.are_numbers).all

    sized : (t : List ℕ) (c : ℕ) → map raised t ≡ c ∷ a.numbers → size_letter c ≡ true → bytes ≡ b ∷ (t ++ rest) → Reads bytes (p ∷ b ∷ t)
    sized [] c h k w = absurd cc
    sized (s ∷ t3) c h k w =
        let same = numbers_back t3 a.numbers (cons_rest (raised s) c (map raised t3) a.numbers h) all in
        reads_sized bytes p b s t3 rest w area (ap size_letter (cons_first (raised s) c (map raised t3) a.numbers h) ∙ k) (ap (is_joined is_digit 46) same ∙ a.are_numbers)

    by : (a.size ≡ []) ⊎ ((c : ℕ) × (a.size ≡ c ∷ []) × (size_letter c ≡ true)) → Reads bytes (p ∷ b ∷ t2)
    by (inl none) =
        let same = numbers_back t2 a.numbers (more ∙ ap (λ (t : List ℕ). t ++ a.numbers) none) all in
        reads_plain bytes p b t2 rest whole area (ap (is_joined is_digit 46) same ∙ a.are_numbers)
    by (inr (c, one, k)) = sized t2 c (more ∙ ap (λ (t : List ℕ). t ++ a.numbers) one) k whole
