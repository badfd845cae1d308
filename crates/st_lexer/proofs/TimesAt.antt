-- What stands behind the `#` of a time.
use Rattle.std.proofs.Common.{◌≡◌, ℕ, suc, ◌+◌, ◌-◌, ◌^◌, ◌<◌, ◌≤◌, Bool, true, false, cond, List, [], ◌∷◌, ◌++◌, length, map, take, drop, Some, None, refl, sym, ap, subst, ◌∙◌, arith}
use Rattle.std.specs.Prelude.{nat_eq}
use Rattle.std.proofs.lemmas.Bool.{eqb-true}
use Rattle.std.proofs.lemmas.Bool.Decides.{nat_tests}
use Rattle.std.proofs.lemmas.List.{length-drop}
use Rattle.iec_tables.specs.Letters.{raised}
use Rattle.st_lexer.specs.Bytes.{is_digit, in_word, begins}
use Rattle.st_lexer.specs.Times.{Part, ArePartsOf, IsPart, sum_of, greatest, sign_of}
use Rattle.st_lexer.specs.Front.{parts_at, longer, time_at, above_units}
use Rattle.st_lexer.proofs.Leads.{TimeRest}
use Rattle.st_lexer.proofs.Numerals.{longer_some}
use Rattle.st_lexer.proofs.Raising.{all_twice, length_raised, take_raised, drop_raised, word_raised, time_raised}
use Rattle.st_lexer.proofs.Durations.{IsRaised, unit_is}
use Rattle.st_lexer.proofs.DurationParts.{parts_some, parts_bound, parts_found, parts_first}

abbrev minus : List ℕ → Bool
minus bytes = begins (nat_eq 45) bytes

minus_first : (bytes : List ℕ) → minus bytes ≡ true → (rest : List ℕ) × (bytes ≡ 45 ∷ rest)
minus_first [] e = cc
minus_first (b ∷ bytes) e = (bytes, let is : 45 ≡ b = eqb-true 45 b e in ap (λ (x : ℕ). x ∷ bytes) (sym is))

digit_no_minus : (bs : List ℕ) → begins is_digit bs ≡ true → minus bs ≡ false
digit_no_minus [] e = refl
digit_no_minus (b ∷ bs) e = grind (arith, nat_tests)

-- ---- of raised bytes

record Here (bytes : List ℕ) (m : ℕ) : Type 0 where
  pub within : m ≤ length bytes
  pub rest : TimeRest (take m bytes)
  pub stops : begins in_word (drop m bytes) ≡ false

here_plain : (bytes : List ℕ) (m : ℕ) → IsRaised bytes → parts_at (suc (length bytes)) above_units (2 ^ 63 - 1) bytes ≡ Some m → Here bytes m
here_plain bytes m r e =
    let p = parts_some (suc (length bytes)) above_units (2 ^ 63 - 1) bytes m r e in
    record {
      within = p.within;
      rest = record { negative = false; body = take m bytes; parts = p.head ∷ p.more; rest_is = sym (take_raised m bytes) ∙ ap (take m) r; are_parts = p.are; in_range = p.sum };
      stops = p.stops;
    }

here_minus : (bytes rest : List ℕ) (m : ℕ) → IsRaised bytes → bytes ≡ 45 ∷ rest → longer 1 (parts_at (length bytes) above_units (2 ^ 63) rest) ≡ Some m → Here bytes m
here_minus bytes rest m r e h =
    let l = longer_some 1 m (parts_at (length bytes) above_units (2 ^ 63) rest) h in
    let j = l.0 in
    let up : suc j ≡ m = omega (arith, l.2) in
    let raised_rest : IsRaised rest = sym (drop_raised 1 (45 ∷ rest)) ∙ ap (drop 1) (ap (map raised) (sym e) ∙ r ∙ e) in
    let p = parts_some (length bytes) above_units (2 ^ 63) rest j raised_rest l.1 in
    let text : take m bytes ≡ 45 ∷ take j rest = ap (λ (k : ℕ). take k bytes) (sym up) ∙ ap (take (suc j)) e in
    record {
      within = omega (arith, up, ap length e, p.within);
      rest = record { negative = true; body = take j rest; parts = p.head ∷ p.more; rest_is = ap (map raised) text ∙ ap (λ (t : List ℕ). 45 ∷ t) (sym (take_raised j rest) ∙ ap (take j) raised_rest); are_parts = p.are; in_range = p.sum };
      stops = ap (λ (k : ℕ). begins in_word (drop k bytes)) (sym up) ∙ ap (λ (t : List ℕ). begins in_word (drop (suc j) t)) e ∙ p.stops;
    }

here : (bytes : List ℕ) (m : ℕ) → IsRaised bytes → time_at bytes ≡ Some m → Here bytes m
unfolding time_at
here bytes m r e = by (minus bytes) refl e
  where
    by : (v : Bool) → minus bytes ≡ v → cond v (longer 1 (parts_at (length bytes) above_units (2 ^ 63) (drop 1 bytes))) (parts_at (suc (length bytes)) above_units (2 ^ 63 - 1) bytes) ≡ Some m → Here bytes m
    by true h k = let f = minus_first bytes h in here_minus bytes f.0 m r f.1 (ap (λ (t : List ℕ). longer 1 (parts_at (length bytes) above_units (2 ^ 63) (drop 1 t))) (sym f.1) ∙ k)
    by false h k = here_plain bytes m r k

-- ---- of any bytes

pub record TimeHere (bytes : List ℕ) (m : ℕ) : Type 0 where
  pub within : m ≤ length bytes
  pub rest : TimeRest (take m bytes)
  pub stops : begins in_word (drop m bytes) ≡ false

time_rest_raised : (text : List ℕ) → TimeRest (map raised text) → TimeRest text
time_rest_raised text t = record { negative = t.negative; body = t.body; parts = t.parts; rest_is = sym (all_twice text) ∙ t.rest_is; are_parts = t.are_parts; in_range = t.in_range }

pub time_some : (bytes : List ℕ) (m : ℕ) → time_at bytes ≡ Some m → TimeHere bytes m
time_some bytes m e =
    let h = here (map raised bytes) m (all_twice bytes) (time_raised bytes ∙ e) in
    record {
      within = omega (arith, h.within, length_raised bytes);
      rest = time_rest_raised (take m bytes) (subst TimeRest (take_raised m bytes) h.rest);
      stops = sym (word_raised (drop m bytes)) ∙ ap (begins in_word) (sym (drop_raised m bytes)) ∙ h.stops;
    }

signed : (bytes text rest : List ℕ) (t : TimeRest text) → bytes ≡ text ++ rest → map raised bytes ≡ (sign_of t.negative ++ t.body) ++ map raised rest
signed bytes text rest t e = ap (map raised) e ∙ raised_append text rest ∙ ap (λ (x : List ℕ). x ++ map raised rest) t.rest_is
  where
    raised_append : (xs ys : List ℕ) → map raised (xs ++ ys) ≡ map raised xs ++ map raised ys
    raised_append [] ys = refl
    raised_append (x ∷ xs) ys = ap (λ (z : List ℕ). raised x ∷ z) (raised_append xs ys)

bound_raised : (R body rest : List ℕ) (negative : Bool) (q : Part) (ps : List Part) (m : ℕ) → R ≡ (sign_of negative ++ body) ++ rest → ArePartsOf (q ∷ ps) body → time_at R ≡ Some m → length (sign_of negative ++ body) ≤ m
unfolding time_at
bound_raised R body rest true q ps m e are h =
    let first : minus R ≡ true = ap minus e in
    let k : longer 1 (parts_at (length R) above_units (2 ^ 63) (drop 1 R)) ≡ Some m = rw first at h in
    let l = longer_some 1 m (parts_at (length R) above_units (2 ^ 63) (drop 1 R)) k in
    let le = parts_bound (length R) above_units (2 ^ 63) (drop 1 R) l.0 body rest q ps l.1 (ap (drop 1) e) are in
    omega (arith, le, l.2)
bound_raised R body rest false q ps m e are h =
    let first : minus R ≡ false = digit_no_minus R (ap (begins is_digit) e ∙ parts_first q ps body rest are) in
    let k : parts_at (suc (length R)) above_units (2 ^ 63 - 1) R ≡ Some m = rw first at h in
    parts_bound (suc (length R)) above_units (2 ^ 63 - 1) R m body rest q ps k e are

pub time_bound : (bytes text rest : List ℕ) (m : ℕ) → time_at bytes ≡ Some m → bytes ≡ text ++ rest → TimeRest text → length text ≤ m
time_bound bytes text rest m e at t = by t.parts t.are_parts
  where
    len : length text ≡ length (sign_of t.negative ++ t.body)
    len = sym (length_raised text) ∙ ap length t.rest_is

    by : (ps : List Part) → ArePartsOf ps t.body → length text ≤ m
    by [] are = absurd are
    by (q ∷ ps) are =
        let le = bound_raised (map raised bytes) t.body (map raised rest) t.negative q ps m (signed bytes text rest t at) are (time_raised bytes ∙ e) in
        omega (arith, le, len)

part_unit : (q : Part) (ps : List Part) (body : List ℕ) → ArePartsOf (q ∷ ps) body → IsPart q
part_unit q [] body (is, e) = is
part_unit q (q2 ∷ ps) body (is, plain, falls, more) = is

found_raised : (R body rest : List ℕ) (negative : Bool) (q : Part) (ps : List Part) → R ≡ (sign_of negative ++ body) ++ rest → ArePartsOf (q ∷ ps) body → begins in_word rest ≡ false → sum_of (q ∷ ps) ≤ greatest negative
    → time_at R ≡ Some (length (sign_of negative ++ body))
unfolding time_at
found_raised R body rest true q ps e are stops sum =
    let first : minus R ≡ true = ap minus e in
    let is = part_unit q ps body are in
    let shorter : length (drop 1 R) < length R = omega (arith, ap length e, length-drop 1 R) in
    let f = parts_found (length R) above_units (2 ^ 63) (drop 1 R) body rest q ps shorter (ap (drop 1) e) are stops (unit_is q.unit q.size is.unit).most sum (omega arith) in
    rw (first, f) (ap (λ (k : ℕ). Some k) (let e : 1 + length body ≡ suc (length body) = omega arith in e))
found_raised R body rest false q ps e are stops sum =
    let first : minus R ≡ false = digit_no_minus R (ap (begins is_digit) e ∙ parts_first q ps body rest are) in
    let is = part_unit q ps body are in
    let f = parts_found (suc (length R)) above_units (2 ^ 63 - 1) R body rest q ps (omega arith) e are stops (unit_is q.unit q.size is.unit).most sum (omega arith) in
    rw first f

pub time_found : (bytes text rest : List ℕ) → bytes ≡ text ++ rest → TimeRest text → begins in_word rest ≡ false → time_at bytes ≡ None → ⊥
time_found bytes text rest at t stops none = by t.parts t.are_parts t.in_range
  where
    by : (ps : List Part) → ArePartsOf ps t.body → sum_of ps ≤ greatest t.negative → ⊥
    by [] are sum = absurd are
    by (q ∷ ps) are sum =
        let f = found_raised (map raised bytes) t.body (map raised rest) t.negative q ps (signed bytes text rest t at) are (word_raised rest ∙ stops) sum in
        let g = sym none ∙ sym (time_raised bytes) ∙ f in
        cc
