-- Typed numbers: what is read behind the `#` is the rest of one, and each one is read.
use Rattle.std.proofs.Common.{◌≡◌, ℕ, suc, ◌+◌, ◌≤◌, Bool, true, false, cond, ◌&&◌, ◌||◌, ◌⊎◌, inl, inr, List, [], ◌∷◌, ◌++◌, length, take, drop, codes, Some, None, refl, sym, ap, subst, ◌∙◌, arith}
use Rattle.std.specs.Prelude.{nat_eq}
use Rattle.std.specs.List.{list_all}
use Rattle.std.proofs.lemmas.Bool.Decides.{nat_tests}
use Rattle.st_lexer.specs.Bytes.{is_letter, is_digit, in_word, begins}
use Rattle.st_lexer.specs.Texts.{is_word_of, IsNumber, IsSign}
use Rattle.st_lexer.specs.Faulty.{EndsNumber}
use Rattle.st_lexer.specs.Front.{number_at, is_sign, signed_at, truths, typed_at, longer, word_length}
use Rattle.st_lexer.proofs.Tests.{both}
use Rattle.st_lexer.proofs.Runs.{run_within, run_stops, run_longest, front_is, split_at}
use Rattle.st_lexer.proofs.Leads.{is_capital, word_among, capitals, first_letter, all_letters, TypedRest, number, truth, one_of_three}
use Rattle.st_lexer.proofs.LeadTexts.{number_first}
use Rattle.st_lexer.proofs.Numerals.{number_some, number_bound, number_found, longer_some}

-- ---- numbers with a sign

-- a number with a sign or none, which ends there
pub record SignedHere (text rest : List ℕ) : Type 0 where
  pub sign : List ℕ
  pub digits : List ℕ
  pub text_is : text ≡ sign ++ digits
  pub is_sign : IsSign sign
  pub is_number : IsNumber digits
  pub ends : EndsNumber digits rest

abbrev SignedSome : List ℕ → ℕ → Type 0
SignedSome bytes m = (m ≤ length bytes) × SignedHere (take m bytes) (drop m bytes)

sign_by : (b : ℕ) → is_sign b ≡ true → IsSign (b ∷ [])
sign_by b e = by (nat_eq b 43) (nat_eq b 45) refl refl e
  where
    by : (v w : Bool) → nat_eq b 43 ≡ v → nat_eq b 45 ≡ w → (v || w) ≡ true → IsSign (b ∷ [])
    by true w e1 e2 h = let is : 43 ≡ b = grind (arith, nat_tests) in (2, omega arith, ap (λ (x : ℕ). x ∷ []) is)
    by false true e1 e2 h = let is : 45 ≡ b = grind (arith, nat_tests) in (1, omega arith, ap (λ (x : ℕ). x ∷ []) is)
    by false false e1 e2 h = absurd cc

bare_some : (bytes : List ℕ) (m : ℕ) → number_at bytes ≡ Some m → SignedSome bytes m
bare_some bytes m e =
    let n = number_some bytes m e in
    (n.within, record { sign = []; digits = take m bytes; text_is = refl; is_sign = (0, omega arith, refl); is_number = n.is; ends = n.ends })

signed_some_by : (bytes : List ℕ) (m : ℕ) (v : Bool) → begins is_sign bytes ≡ v → cond v (longer 1 (number_at (drop 1 bytes))) (number_at bytes) ≡ Some m → SignedSome bytes m
signed_some_by bytes m false h e = bare_some bytes m e
signed_some_by [] m true h e = absurd cc
signed_some_by (b ∷ bytes) m true h e =
    let l = longer_some 1 m (number_at bytes) e in
    let n = number_some bytes l.0 l.1 in
    let up : suc l.0 ≡ m = omega (arith, l.2) in
    subst (λ (k : ℕ). SignedSome (b ∷ bytes) k) up
    (omega (arith, n.within), record { sign = b ∷ []; digits = take l.0 bytes; text_is = refl; is_sign = sign_by b h; is_number = n.is; ends = n.ends })

pub signed_some : (bytes : List ℕ) (m : ℕ) → signed_at bytes ≡ Some m → SignedSome bytes m
signed_some bytes m e = signed_some_by bytes m (begins is_sign bytes) refl e

-- the first byte of a signed number: a sign or a digit
sign_cases : (sign : List ℕ) → IsSign sign → (sign ≡ []) ⊎ ((b : ℕ) × (sign ≡ b ∷ []) × (is_sign b ≡ true))
sign_cases sign h = by (one_of_three [] (codes "-") (codes "+") sign h)
  where
    by : ([] ≡ sign) ⊎ ((codes "-" ≡ sign) ⊎ (codes "+" ≡ sign)) → (sign ≡ []) ⊎ ((b : ℕ) × (sign ≡ b ∷ []) × (is_sign b ≡ true))
    by (inl e) = inl (sym e)
    by (inr (inl e)) = inr (45, sym e, refl)
    by (inr (inr e)) = inr (43, sym e, refl)

digit_no_sign : (b : ℕ) → is_digit b ≡ true → is_sign b ≡ false
digit_no_sign b e = grind (arith, nat_tests)

begins_front : (test : ℕ → Bool) (xs rest : List ℕ) → begins test xs ≡ true → begins test (xs ++ rest) ≡ true
begins_front test [] rest e = absurd cc
begins_front test (x ∷ xs) rest e = e

no_sign_first : (xs : List ℕ) → begins is_digit xs ≡ true → begins is_sign xs ≡ false
no_sign_first [] e = refl
no_sign_first (x ∷ xs) e = digit_no_sign x e

pub signed_bound : (bytes sign digits rest : List ℕ) (m : ℕ) → signed_at bytes ≡ Some m → bytes ≡ (sign ++ digits) ++ rest → IsSign sign → IsNumber digits → length (sign ++ digits) ≤ m
signed_bound bytes sign digits rest m e at s n = by (sign_cases sign s)
  where
    by : (sign ≡ []) ⊎ ((b : ℕ) × (sign ≡ b ∷ []) × (is_sign b ≡ true)) → length (sign ++ digits) ≤ m
    by (inl none) =
        let whole : bytes ≡ digits ++ rest = at ∙ ap (λ (x : List ℕ). (x ++ digits) ++ rest) none in
        let first : begins is_sign bytes ≡ false = no_sign_first bytes (ap (begins is_digit) whole ∙ begins_front is_digit digits rest (number_first digits n)) in
        let plain : number_at bytes ≡ Some m = rw first at e in
        let le = number_bound bytes digits rest m plain whole n in
        omega (arith, le, ap (λ (x : List ℕ). length (x ++ digits)) none)
    by (inr (b, one, is)) =
        let whole : bytes ≡ b ∷ (digits ++ rest) = at ∙ ap (λ (x : List ℕ). (x ++ digits) ++ rest) one in
        let first : begins is_sign bytes ≡ true = ap (begins is_sign) whole ∙ is in
        let behind : longer 1 (number_at (drop 1 bytes)) ≡ Some m = rw first at e in
        let l = longer_some 1 m (number_at (drop 1 bytes)) behind in
        let le = number_bound (drop 1 bytes) digits rest l.0 l.1 (ap (drop 1) whole) n in
        omega (arith, le, l.2, ap (λ (x : List ℕ). length (x ++ digits)) one)

pub signed_found : (bytes sign digits rest : List ℕ) → bytes ≡ (sign ++ digits) ++ rest → IsSign sign → IsNumber digits → EndsNumber digits rest → signed_at bytes ≡ Some (length (sign ++ digits))
signed_found bytes sign digits rest at s n ends = by (sign_cases sign s)
  where
    by : (sign ≡ []) ⊎ ((b : ℕ) × (sign ≡ b ∷ []) × (is_sign b ≡ true)) → signed_at bytes ≡ Some (length (sign ++ digits))
    by (inl none) =
        let whole : bytes ≡ digits ++ rest = at ∙ ap (λ (x : List ℕ). (x ++ digits) ++ rest) none in
        let first : begins is_sign bytes ≡ false = no_sign_first bytes (ap (begins is_digit) whole ∙ begins_front is_digit digits rest (number_first digits n)) in
        rw first (number_found bytes digits rest whole n ends ∙ ap (λ (x : List ℕ). Some (length (x ++ digits))) (sym none))
    by (inr (b, one, is)) =
        let whole : bytes ≡ b ∷ (digits ++ rest) = at ∙ ap (λ (x : List ℕ). (x ++ digits) ++ rest) one in
        let first : begins is_sign bytes ≡ true = ap (begins is_sign) whole ∙ is in
        let inner = number_found (drop 1 bytes) digits rest (ap (drop 1) whole) n ends in
        let count : 1 + length digits ≡ length (sign ++ digits) = omega (arith, ap (λ (x : List ℕ). length (x ++ digits)) one) in
        rw first (ap (longer 1) inner ∙ ap (λ (k : ℕ). Some k) count)

-- ---- behind the `#`

pub data TypedEnds (word text rest : List ℕ) : Type 0 where
  number_ends : SignedHere text rest → TypedEnds word text rest
  truth_ends : is_word_of (codes "BOOL" ∷ []) word ≡ true → is_word_of truths text ≡ true → begins in_word rest ≡ false → TypedEnds word text rest

truths_capital : list_all (λ t. begins is_capital t && list_all is_capital t) truths ≡ true
truths_capital = refl

truth_letters : (w : List ℕ) → is_word_of truths w ≡ true → (begins is_letter w ≡ true) × (list_all in_word w ≡ true)
truth_letters w e =
    let r = word_among (λ t. begins is_capital t && list_all is_capital t) truths w truths_capital e in
    let parts = both (begins is_capital r.word) (list_all is_capital r.word) r.passes in
    (first_letter w r.word r.is parts.0, all_letters w (capitals w r.word r.is parts.1))

pub typed_some : (word bytes : List ℕ) (m : ℕ) → typed_at word bytes ≡ Some m → (m ≤ length bytes) × TypedEnds word (take m bytes) (drop m bytes)
unfolding typed_at
typed_some word bytes m e = by (is_word_of (codes "BOOL" ∷ []) word) (is_word_of truths (take (word_length bytes) bytes)) refl refl e
  where
    by : (v w : Bool) → is_word_of (codes "BOOL" ∷ []) word ≡ v → is_word_of truths (take (word_length bytes) bytes) ≡ w → cond (v && w) (Some (word_length bytes)) (signed_at bytes) ≡ Some m
        → (m ≤ length bytes) × TypedEnds word (take m bytes) (drop m bytes)
    by true true is t h =
        let n : word_length bytes ≡ m = cc in
        subst (λ (k : ℕ). (k ≤ length bytes) × TypedEnds word (take k bytes) (drop k bytes)) n (run_within in_word bytes, truth_ends is t (run_stops in_word bytes))
    by true false is t h = let s = signed_some bytes m h in (s.0, number_ends s.1)
    by false w is t h = let s = signed_some bytes m h in (s.0, number_ends s.1)

letter_no_digit : (b : ℕ) → is_letter b ≡ true → is_digit b ≡ true → ⊥
letter_no_digit b l d = grind (arith, nat_tests)

letter_no_sign : (b : ℕ) → is_letter b ≡ true → is_sign b ≡ true → ⊥
letter_no_sign b l d = grind (arith, nat_tests)

-- no signed number begins with a letter
signed_no_letter : (sign digits rest : List ℕ) → IsSign sign → IsNumber digits → begins is_letter ((sign ++ digits) ++ rest) ≡ true → ⊥
signed_no_letter sign digits rest s n h = by (sign_cases sign s)
  where
    digits_first : (ds : List ℕ) → begins is_digit ds ≡ true → begins is_letter (ds ++ rest) ≡ true → ⊥
    digits_first [] d l = cc
    digits_first (x ∷ ds) d l = letter_no_digit x l d

    by : (sign ≡ []) ⊎ ((b : ℕ) × (sign ≡ b ∷ []) × (is_sign b ≡ true)) → ⊥
    by (inl none) = digits_first digits (number_first digits n) (ap (λ (x : List ℕ). begins is_letter ((x ++ digits) ++ rest)) (sym none) ∙ h)
    by (inr (b, one, is)) = letter_no_sign b (ap (λ (x : List ℕ). begins is_letter ((x ++ digits) ++ rest)) (sym one) ∙ h) is

begins_whole : (test : ℕ → Bool) (n : ℕ) (bytes : List ℕ) → begins test (take n bytes) ≡ true → begins test bytes ≡ true
begins_whole test n bytes e = ap (begins test) (split_at n bytes) ∙ begins_front test (take n bytes) (drop n bytes) e

pub typed_bound : (word bytes text rest : List ℕ) (m : ℕ) → typed_at word bytes ≡ Some m → bytes ≡ text ++ rest → TypedRest word text → length text ≤ m
unfolding typed_at
typed_bound word bytes text rest m e at r = by (is_word_of (codes "BOOL" ∷ []) word) (is_word_of truths (take (word_length bytes) bytes)) refl refl e r
  where
    signed_case : signed_at bytes ≡ Some m → TypedRest word text → length text ≤ m
    signed_case h (number sign digits text_is s n) =
        let le = signed_bound bytes sign digits rest m h (at ∙ ap (λ (x : List ℕ). x ++ rest) text_is) s n in
        omega (arith, le, ap length text_is)
    signed_case h (truth is t) =
        let here = (signed_some bytes m h).1 in
        let letter : begins is_letter bytes ≡ true = ap (begins is_letter) at ∙ begins_front is_letter text rest (truth_letters text t).0 in
        let whole : bytes ≡ (here.sign ++ here.digits) ++ drop m bytes = split_at m bytes ∙ ap (λ (x : List ℕ). x ++ drop m bytes) here.text_is in
        absurd (signed_no_letter here.sign here.digits (drop m bytes) here.is_sign here.is_number (ap (begins is_letter) (sym whole) ∙ letter))

    by : (v w : Bool) → is_word_of (codes "BOOL" ∷ []) word ≡ v → is_word_of truths (take (word_length bytes) bytes) ≡ w → cond (v && w) (Some (word_length bytes)) (signed_at bytes) ≡ Some m
        → TypedRest word text → length text ≤ m
    by true true is t h (number sign digits text_is s n) =
        let letter : begins is_letter bytes ≡ true = begins_whole is_letter (word_length bytes) bytes (truth_letters (take (word_length bytes) bytes) t).0 in
        absurd (signed_no_letter sign digits rest s n (ap (λ (x : List ℕ). begins is_letter (x ++ rest)) (sym text_is) ∙ ap (begins is_letter) (sym at) ∙ letter))
    by true true is t h (truth b u) =
        let n : word_length bytes ≡ m = cc in
        let most = run_longest in_word text rest (truth_letters text u).1 in
        omega (arith, n, most, ap word_length at)
    by true false is t h x = signed_case h x
    by false w is t h x = signed_case h x

pub typed_found : (word bytes text rest : List ℕ) → bytes ≡ text ++ rest → TypedEnds word text rest → typed_at word bytes ≡ None → ⊥
unfolding typed_at
typed_found word bytes text rest at ends none = by (is_word_of (codes "BOOL" ∷ []) word) (is_word_of truths (take (word_length bytes) bytes)) refl refl none ends
  where
    by : (v w : Bool) → is_word_of (codes "BOOL" ∷ []) word ≡ v → is_word_of truths (take (word_length bytes) bytes) ≡ w → cond (v && w) (Some (word_length bytes)) (signed_at bytes) ≡ None
        → TypedEnds word text rest → ⊥
    by true true is t h x = cc
    by v w is t h (number_ends s) =
        let found = signed_found bytes s.sign s.digits rest (at ∙ ap (λ (x : List ℕ). x ++ rest) s.text_is) s.is_sign s.is_number s.ends in
        not_none v w (length (s.sign ++ s.digits)) h found
      where
        not_none : (v w : Bool) (n : ℕ) → cond (v && w) (Some (word_length bytes)) (signed_at bytes) ≡ None → signed_at bytes ≡ Some n → ⊥
        not_none true true n h f = cc
        not_none true false n h f = let e = sym h ∙ f in cc
        not_none false w n h f = let e = sym h ∙ f in cc
    by v w is t h (truth_ends b u stops) =
        let f = front_is in_word bytes text rest at (truth_letters text u).1 stops in
        let tw : is_word_of truths (take (word_length bytes) bytes) ≡ true = ap (is_word_of truths) f.run ∙ u in
        absurd (both_true v w (sym is ∙ b) (sym t ∙ tw) h)
      where
        both_true : (v w : Bool) → v ≡ true → w ≡ true → cond (v && w) (Some (word_length bytes)) (signed_at bytes) ≡ None → ⊥
        both_true true true e1 e2 h = cc
        both_true true false e1 e2 h = cc
        both_true false w e1 e2 h = cc
