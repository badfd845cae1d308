-- The values of typed numbers: what is read of a whole text is one, and each one is read.
use Rattle.std.proofs.Common.{◌≡◌, ℕ, zero, suc, Bool, true, false, cond, ◌||◌, List, [], ◌∷◌, ◌++◌, map, take, drop, codes, Option, Some, None, refl, sym, ap, subst, ◌∙◌, arith}
use Rattle.std.specs.Prelude.{nat_eq, bytes_eq}
use Rattle.std.specs.List.{list_any, Contains}
use Rattle.std.proofs.lemmas.Bool.Decides.{nat_tests}
use Rattle.iec_tables.specs.Letters.{raised}
use Rattle.iec_tables.specs.Types.{name_of}
use Rattle.iec_tables.specs.declared.elem.Elem.{Elem}
use Rattle.iec_tables.specs.declared.elem.Elem.TheVariants as elem
use Rattle.st_lexer.specs.declared.values.TypedValue.{TypedValue}
use Rattle.st_lexer.specs.Bytes.{is_digit, is_letter, begins}
use Rattle.st_lexer.specs.Texts as texts
use Rattle.st_lexer.specs.Texts.{is_word_of, type_words, IsSign, IsTyped}
use Rattle.st_lexer.specs.Front.{found_in, hash_follows, word_length}
use Rattle.st_lexer.specs.Values as values
use Rattle.st_lexer.specs.Values.{typed_elems, named_types, with_names, signs, truth_values, IsNumberValue, IsSignedValue, IsTypedValue}
use Rattle.st_lexer.specs.steps.Readings.{read_number, of_type, read_signed, truth_words, read_truth, or_signed, behind_type, typed_by, read_typed}
use Rattle.st_lexer.proofs.Tests.{same, equal, or_right}
use Rattle.st_lexer.proofs.Tables.{distinct, found_there, found_row}
use Rattle.st_lexer.proofs.Runs.{split_at}
use Rattle.st_lexer.proofs.Leads.{all_letters, first_letter, type_letters, raised_split}
use Rattle.st_lexer.proofs.LeadTexts.{number_first}
use Rattle.st_lexer.proofs.Numerals.{hashed}
use Rattle.st_lexer.proofs.Raising.{raised_append}
use Rattle.st_lexer.proofs.NumberValues.{number_some, number_found, some_number, only_number}

-- ---- names of types

abbrev Row : Type 0
Row = Elem × List ℕ

row_name : (ts : List Elem) (t : Elem) (w : List ℕ) → Contains (with_names ts) (t, w)
    → w ≡ name_of t
row_name [] t w (i, lt, e) = absurd (omega (arith, lt))
row_name (u ∷ us) t w (zero, lt, e) =
    sym (ap (λ (r : Row). r.1) e) ∙ ap (λ (r : Row). name_of r.0) e
row_name (u ∷ us) t w (suc i, lt, e) = row_name us t w (i, omega (arith, lt), e)

row_word : (ts : List Elem) (t : Elem) (w : List ℕ) → Contains (with_names ts) (t, w)
    → list_any (bytes_eq w) (map name_of ts) ≡ true
row_word [] t w (i, lt, e) = absurd (omega (arith, lt))
row_word (u ∷ us) t w (zero, lt, e) = rw (equal w (name_of u) (sym (ap (λ (r : Row). r.1) e))) refl
row_word (u ∷ us) t w (suc i, lt, e) =
    rw (row_word us t w (i, omega (arith, lt), e)) (or_right (bytes_eq w (name_of u)))

word_row : (ts : List Elem) (w : List ℕ) → list_any (bytes_eq w) (map name_of ts) ≡ true
    → (t : Elem) × Contains (with_names ts) (t, w)
word_row [] w e = absurd cc
word_row (u ∷ us) w e = by (bytes_eq w (name_of u)) refl e (word_row us w)
  where
    by : (v : Bool) → bytes_eq w (name_of u) ≡ v
        → (v || list_any (bytes_eq w) (map name_of us)) ≡ true
        → (list_any (bytes_eq w) (map name_of us) ≡ true
        → (t : Elem) × Contains (with_names us) (t, w))
        → (t : Elem) × Contains (with_names (u ∷ us)) (t, w)
    by true is h more =
        (u, (0, omega arith, ap (λ (x : List ℕ). (u, x)) (sym (same w (name_of u) is))))
    by false is h more = let c = more h in (c.0, (suc c.1.0, omega (arith, c.1.1), c.1.2))

types_differ : distinct named_types ≡ true
unfolding distinct
types_differ = refl

type_word : (t : Elem) (w : List ℕ) → Contains named_types (t, map raised w)
    → is_word_of type_words w ≡ true
type_word t w h = row_word typed_elems t (map raised w) h

-- ---- numbers with a sign

abbrev typed_value : Elem → Bool → ℕ → TypedValue
typed_value t negative size = record { elem = t; negative = negative; size = size }

first_is : (b : ℕ) (bytes : List ℕ) → begins (nat_eq b) bytes ≡ true → bytes ≡ b ∷ drop 1 bytes
first_is b [] e = absurd cc
first_is b (c ∷ bytes) e = let is : b ≡ c =
    grind (arith, nat_tests) in ap (λ (x : ℕ). x ∷ bytes) (sym is)

abbrev SignedHere : Elem → List ℕ → TypedValue → Type 0
SignedHere t bytes v = (v.elem ≡ t) × IsSignedValue bytes v.negative v.size

signed_here : (t : Elem) (negative : Bool) (sign digits bytes : List ℕ) (v : TypedValue)
    → Contains signs (negative, sign) → bytes ≡ sign ++ digits
    → of_type t negative (read_number digits) ≡ Some v → SignedHere t bytes v
signed_here t negative sign digits bytes v there text_is e = by (read_number digits) refl e
  where
    by : (o : Option ℕ) → read_number digits ≡ o → of_type t negative o ≡ Some v
        → SignedHere t bytes v
    by None at h = absurd cc
    by (Some size) at h =
        let is : typed_value t negative size ≡ v = cc in
        subst (λ (x : TypedValue). SignedHere t bytes x) is (
          refl,
          record {
            sign = sign;
            digits = digits;
            text_is = text_is;
            is_sign = there;
            number = number_some digits size at;
          },
        )

signed_some : (t : Elem) (bytes : List ℕ) (v : TypedValue) → read_signed t bytes ≡ Some v
    → SignedHere t bytes v
signed_some t bytes v e = by (begins (nat_eq 45) bytes) (begins (nat_eq 43) bytes) refl refl e
  where
    by : (m p : Bool) → begins (nat_eq 45) bytes ≡ m → begins (nat_eq 43) bytes ≡ p
        → cond m (of_type t true (read_number (drop 1 bytes)))
        (cond p (of_type t false (read_number (drop 1 bytes)))
        (of_type t false (read_number bytes))) ≡ Some v → SignedHere t bytes v
    by true p e1 e2 h =
        signed_here t true (codes "-") (drop 1 bytes) bytes v (2, omega arith, refl)
        (first_is 45 bytes e1) h
    by false true e1 e2 h =
        signed_here t false (codes "+") (drop 1 bytes) bytes v (1, omega arith, refl)
        (first_is 43 bytes e2) h
    by false false e1 e2 h = signed_here t false [] bytes bytes v (0, omega arith, refl) refl h

digit_no : (b : ℕ) → is_digit b ≡ true → (nat_eq 45 b ≡ false) × (nat_eq 43 b ≡ false)
digit_no b e = (grind (arith, nat_tests), grind (arith, nat_tests))

no_sign : (bytes : List ℕ) → begins is_digit bytes ≡ true
    → (begins (nat_eq 45) bytes ≡ false) × (begins (nat_eq 43) bytes ≡ false)
no_sign [] e = absurd cc
no_sign (b ∷ bytes) e = digit_no b e

bare_found : (t : Elem) (bytes : List ℕ) (size : ℕ) → IsNumberValue bytes size
    → read_signed t bytes ≡ Some (typed_value t false size)
bare_found t bytes size n =
    let no = no_sign bytes (number_first bytes (only_number bytes size n)) in
    rw (no.0, no.1, number_found bytes size n) refl

sign_found : (t : Elem) (negative : Bool) (sign digits : List ℕ) (size : ℕ)
    → Contains signs (negative, sign) → IsNumberValue digits size
    → read_signed t (sign ++ digits) ≡ Some (typed_value t negative size)
sign_found t negative sign digits size (zero, lt, at) n =
    rw (← ap (λ (r : Bool × List ℕ). r.0) at, ← ap (λ (r : Bool × List ℕ). r.1) at)
    (bare_found t digits size n)
sign_found t negative sign digits size (suc zero, lt, at) n =
    rw (
      ← ap (λ (r : Bool × List ℕ). r.0) at,
      ← ap (λ (r : Bool × List ℕ). r.1) at,
      number_found digits size n,
    ) refl
sign_found t negative sign digits size (suc (suc zero), lt, at) n =
    rw (
      ← ap (λ (r : Bool × List ℕ). r.0) at,
      ← ap (λ (r : Bool × List ℕ). r.1) at,
      number_found digits size n,
    ) refl
sign_found t negative sign digits size (suc (suc (suc i)), lt, at) n = absurd (omega (arith, lt))

signed_found : (t : Elem) (bytes : List ℕ) (negative : Bool) (size : ℕ)
    → IsSignedValue bytes negative size → read_signed t bytes ≡ Some (typed_value t negative size)
signed_found t bytes negative size s =
    ap (read_signed t) s.text_is ∙ sign_found t negative s.sign s.digits size s.is_sign s.number

-- ---- truth values

truth_some : (t : Elem) (w : List ℕ) (size : ℕ) → read_truth t w ≡ Some size
    → (t ≡ elem.Bool) × Contains truth_words (size, map raised w)
truth_some elem.Bool w size e = (refl, found_there truth_words (map raised w) size e)
truth_some elem.Sint w size e = absurd cc
truth_some elem.Int w size e = absurd cc
truth_some elem.Dint w size e = absurd cc
truth_some elem.Lint w size e = absurd cc
truth_some elem.Usint w size e = absurd cc
truth_some elem.Uint w size e = absurd cc
truth_some elem.Udint w size e = absurd cc
truth_some elem.Ulint w size e = absurd cc
truth_some elem.Byte w size e = absurd cc
truth_some elem.Word w size e = absurd cc
truth_some elem.Dword w size e = absurd cc
truth_some elem.Lword w size e = absurd cc
truth_some elem.Time w size e = absurd cc

-- behind BOOL and a `#`
truth_text : (size : ℕ) (text r : List ℕ) → map raised text ≡ codes "BOOL" ++ 35 ∷ r
    → Contains truth_words (size, r) → Contains truth_values (size, map raised text)
truth_text size text r e (zero, lt, at) = (
  0,
  omega arith,
  ap (λ (x : ℕ × List ℕ). (x.0, codes "BOOL" ++ 35 ∷ x.1)) at
      ∙ ap (λ (x : List ℕ). (size, x)) (sym e),
)
truth_text size text r e (suc zero, lt, at) = (
  1,
  omega arith,
  ap (λ (x : ℕ × List ℕ). (x.0, codes "BOOL" ++ 35 ∷ x.1)) at
      ∙ ap (λ (x : List ℕ). (size, x)) (sym e),
)
truth_text size text r e (suc (suc i), lt, at) = absurd (omega (arith, lt))

-- a truth value is no number with a sign
truth_first : (r w : List ℕ) (size : ℕ) → map raised r ≡ w → Contains truth_words (size, w)
    → begins is_letter r ≡ true
truth_first r w size e (zero, lt, at) =
    first_letter r (codes "TRUE") (e ∙ sym (ap (λ (x : ℕ × List ℕ). x.1) at)) refl
truth_first r w size e (suc zero, lt, at) =
    first_letter r (codes "FALSE") (e ∙ sym (ap (λ (x : ℕ × List ℕ). x.1) at)) refl
truth_first r w size e (suc (suc i), lt, at) = absurd (omega (arith, lt))

letter_no_digit : (b : ℕ) → is_letter b ≡ true → is_digit b ≡ true → ⊥
letter_no_digit b l d = grind (arith, nat_tests)

no_letter : (negative : Bool) (sign digits : List ℕ) → Contains signs (negative, sign)
    → begins is_digit digits ≡ true → begins is_letter (sign ++ digits) ≡ true → ⊥
no_letter negative sign digits (zero, lt, at) d l =
    bare digits d (ap (λ (r : Bool × List ℕ). begins is_letter (r.1 ++ digits)) at ∙ l)
  where
    bare : (ds : List ℕ) → begins is_digit ds ≡ true → begins is_letter ds ≡ true → ⊥
    bare [] d l = cc
    bare (x ∷ ds) d l = letter_no_digit x l d
no_letter negative sign digits (suc zero, lt, at) d l = let h : false ≡ true =
    ap (λ (r : Bool × List ℕ). begins is_letter (r.1 ++ digits)) at ∙ l in cc
no_letter negative sign digits (suc (suc zero), lt, at) d l = let h : false ≡ true =
    ap (λ (r : Bool × List ℕ). begins is_letter (r.1 ++ digits)) at ∙ l in cc
no_letter negative sign digits (suc (suc (suc i)), lt, at) d l = absurd (omega (arith, lt))

no_truth : (t : Elem) (bytes : List ℕ) (negative : Bool) (size : ℕ)
    → IsSignedValue bytes negative size → read_truth t bytes ≡ None
no_truth t bytes negative size s = by (read_truth t bytes) refl
  where
    by : (o : Option ℕ) → read_truth t bytes ≡ o → o ≡ None
    by None e = refl
    by (Some n) e =
        let letter = truth_first bytes (map raised bytes) n refl (truth_some t bytes n e).1 in
        absurd (no_letter negative s.sign s.digits s.is_sign
        (number_first s.digits (only_number s.digits size s.number))
        (ap (begins is_letter) (sym s.text_is) ∙ letter))

-- ---- typed numbers

typed_by_truth : (text word r : List ℕ) (t : Elem) (size : ℕ) (v : TypedValue)
    → text ≡ word ++ 35 ∷ r → map raised word ≡ name_of t
    → (t ≡ elem.Bool) × Contains truth_words (size, map raised r) → typed_value t false size ≡ v
    → IsTypedValue text v
typed_by_truth text word r t size v text_is name (is_bool, there) e =
    let raised_text : map raised text ≡ codes "BOOL" ++ 35 ∷ map raised r =
    ap (map raised) text_is ∙ raised_append word (35 ∷ r)
    ∙ ap (λ (w : List ℕ). w ++ 35 ∷ map raised r) (name ∙ ap name_of is_bool) in
    subst (λ (x : TypedValue). IsTypedValue text x) e
    (values.truth (truth_text size text (map raised r) raised_text there) is_bool refl)

behind_some : (text word r : List ℕ) (t : Elem) (v : TypedValue) → text ≡ word ++ 35 ∷ r
    → Contains named_types (t, map raised word) → behind_type t r ≡ Some v → IsTypedValue text v
unfolding behind_type
behind_some text word r t v text_is there e = by (read_truth t r) refl e
  where
    by : (o : Option ℕ) → read_truth t r ≡ o → or_signed t o r ≡ Some v → IsTypedValue text v
    by (Some size) at h =
        typed_by_truth text word r t size v text_is (row_name typed_elems t (map raised word) there)
        (truth_some t r size at) (let is : typed_value t false size ≡ v = cc in is)
    by None at h =
        let s = signed_some t r v h in
        values.number word r text_is
        (subst (λ (x : Elem). Contains named_types (x, map raised word)) (sym s.0) there) s.1

pub typed_some : (text : List ℕ) (v : TypedValue) → read_typed text ≡ Some v → IsTypedValue text v
unfolding read_typed
typed_some text v e = by (found_in named_types (map raised word)) refl e
  where
    word : List ℕ
    word = take (word_length text) text

    rest : List ℕ
    rest = drop (word_length text) text

    by_hash : (t : Elem) (h : Bool) → Contains named_types (t, map raised word)
        → hash_follows rest ≡ h → cond h (behind_type t (drop 1 rest)) None ≡ Some v
        → IsTypedValue text v
    by_hash t true there follows k =
        let f = first_is 35 rest follows in
        behind_some text word (drop 1 rest) t v
        (split_at (word_length text) text ∙ ap (λ (x : List ℕ). word ++ x) f) there k
    by_hash t false there follows k = absurd cc

    by : (o : Option Elem) → found_in named_types (map raised word) ≡ o → typed_by o rest ≡ Some v
        → IsTypedValue text v
    by None at h = absurd cc
    by (Some t) at h =
        by_hash t (hash_follows rest) (found_there named_types (map raised word) t at) refl h

split_found : (text word r : List ℕ) (t : Elem) → text ≡ word ++ 35 ∷ r
    → Contains named_types (t, map raised word) → read_typed text ≡ behind_type t r
unfolding read_typed
split_found text word r t text_is there =
    let h = hashed text word r text_is
    (all_letters word (type_letters word (type_word t word there)).all) in
    let found : found_in named_types (map raised (take (word_length text) text)) ≡ Some t =
    ap (λ (w : List ℕ). found_in named_types (map raised w)) h.run
    ∙ found_row named_types (map raised word) t types_differ there in
    let follows : hash_follows (drop (word_length text) text) ≡ true = ap hash_follows h.behind in
    let behind : drop 1 (drop (word_length text) text) ≡ r = ap (drop 1) h.behind in
    rw (found, follows, behind) refl

signed_behind : (t : Elem) (r : List ℕ) (negative : Bool) (size : ℕ) → IsSignedValue r negative size
    → behind_type t r ≡ Some (typed_value t negative size)
unfolding behind_type
signed_behind t r negative size s =
    rw (no_truth t r negative size s) (signed_found t r negative size s)

same_value : (v : TypedValue) (t : Elem) (negative : Bool) (size : ℕ) → v.elem ≡ t
    → v.negative ≡ negative → v.size ≡ size → typed_value t negative size ≡ v
same_value v t negative size e1 e2 e3 = rw (← e1, ← e2, ← e3) refl

truth_behind : (text : List ℕ) (size : ℕ) (w : List ℕ) → map raised text ≡ codes "BOOL" ++ 35 ∷ w
    → found_in truth_words w ≡ Some size → read_typed text ≡ Some (typed_value elem.Bool false size)
unfolding behind_type
truth_behind text size w e found =
    let s = raised_split text (codes "BOOL") w e in
    let there : Contains named_types (elem.Bool, map raised s.word) =
    (8, omega arith, ap (λ (x : List ℕ). (elem.Bool, x)) (sym s.word_is)) in
    let is : read_truth elem.Bool s.rest ≡ Some size =
    ap (found_in truth_words) s.rest_is ∙ found in
    split_found text s.word s.rest elem.Bool s.text_is there ∙ rw is refl

truth_found : (text : List ℕ) (size : ℕ) → Contains truth_values (size, map raised text)
    → read_typed text ≡ Some (typed_value elem.Bool false size)
truth_found text size (zero, lt, at) =
    truth_behind text 1 (codes "TRUE") (sym (ap (λ (x : ℕ × List ℕ). x.1) at)) refl
    ∙ ap (λ (x : ℕ × List ℕ). Some (typed_value elem.Bool false x.0)) at
truth_found text size (suc zero, lt, at) =
    truth_behind text 0 (codes "FALSE") (sym (ap (λ (x : ℕ × List ℕ). x.1) at)) refl
    ∙ ap (λ (x : ℕ × List ℕ). Some (typed_value elem.Bool false x.0)) at
truth_found text size (suc (suc i), lt, at) = absurd (omega (arith, lt))

pub typed_found : (text : List ℕ) (v : TypedValue) → IsTypedValue text v → read_typed text ≡ Some v
typed_found text v (values.number word r text_is there s) =
    split_found text word r v.elem text_is there ∙ signed_behind v.elem r v.negative v.size s
    ∙ ap (λ (x : TypedValue). Some x) (same_value v v.elem v.negative v.size refl refl refl)
typed_found text v (values.truth there e1 e2) =
    truth_found text v.size there
    ∙ ap (λ (x : TypedValue). Some x) (same_value v elem.Bool false v.size e1 e2 refl)

-- ---- each typed number has a value, and what has one is a typed number

some_sign : (sign : List ℕ) → IsSign sign → (negative : Bool) × Contains signs (negative, sign)
some_sign sign (zero, lt, at) = (false, (0, omega arith, ap (λ (s : List ℕ). (false, s)) at))
some_sign sign (suc zero, lt, at) = (true, (2, omega arith, ap (λ (s : List ℕ). (true, s)) at))
some_sign sign (suc (suc zero), lt, at) =
    (false, (1, omega arith, ap (λ (s : List ℕ). (false, s)) at))
some_sign sign (suc (suc (suc i)), lt, at) = absurd (omega (arith, lt))

only_sign : (negative : Bool) (sign : List ℕ) → Contains signs (negative, sign) → IsSign sign
only_sign negative sign (zero, lt, at) = (0, omega arith, ap (λ (r : Bool × List ℕ). r.1) at)
only_sign negative sign (suc zero, lt, at) = (2, omega arith, ap (λ (r : Bool × List ℕ). r.1) at)
only_sign negative sign (suc (suc zero), lt, at) =
    (1, omega arith, ap (λ (r : Bool × List ℕ). r.1) at)
only_sign negative sign (suc (suc (suc i)), lt, at) = absurd (omega (arith, lt))

some_truth : (text : List ℕ) (u w : Bool) → bytes_eq (map raised text) (codes "BOOL#TRUE") ≡ u
    → bytes_eq (map raised text) (codes "BOOL#FALSE") ≡ w
    → (u || (w || false)) ≡ true → (size : ℕ) × Contains truth_values (size, map raised text)
some_truth text true w e1 e2 h = (
  1,
  (
    0,
    omega arith,
    ap (λ (t : List ℕ). (1, t)) (sym (same (map raised text) (codes "BOOL#TRUE") e1)),
  ),
)
some_truth text false true e1 e2 h = (
  0,
  (
    1,
    omega arith,
    ap (λ (t : List ℕ). (0, t)) (sym (same (map raised text) (codes "BOOL#FALSE") e2)),
  ),
)
some_truth text false false e1 e2 h = absurd cc

pub some_typed : (text : List ℕ) → IsTyped text → (v : TypedValue) × IsTypedValue text v
some_typed text (texts.number word sign digits text_is is_type is_sign n) =
    let t = word_row typed_elems (map raised word) is_type in
    let s = some_sign sign is_sign in
    let d = some_number digits n in (
      typed_value t.0 s.0 d.0,
      values.number word (sign ++ digits) text_is t.1
          (record { sign = sign; digits = digits; text_is = refl; is_sign = s.1; number = d.1 }),
    )
some_typed text (texts.truth e) =
    let t = some_truth text (bytes_eq (map raised text) (codes "BOOL#TRUE"))
    (bytes_eq (map raised text) (codes "BOOL#FALSE")) refl refl e in
    (typed_value elem.Bool false t.0, values.truth t.1 refl refl)

only_truth : (text : List ℕ) (size : ℕ) → Contains truth_values (size, map raised text)
    → is_word_of (codes "BOOL#TRUE" ∷ codes "BOOL#FALSE" ∷ []) text ≡ true
only_truth text size (zero, lt, at) =
    rw (equal (map raised text) (codes "BOOL#TRUE") (sym (ap (λ (x : ℕ × List ℕ). x.1) at))) refl
only_truth text size (suc zero, lt, at) =
    rw (equal (map raised text) (codes "BOOL#FALSE") (sym (ap (λ (x : ℕ × List ℕ). x.1) at)))
    (or_right (bytes_eq (map raised text) (codes "BOOL#TRUE")))
only_truth text size (suc (suc i), lt, at) = absurd (omega (arith, lt))

pub only_typed : (text : List ℕ) (v : TypedValue) → IsTypedValue text v → IsTyped text
only_typed text v (values.number word r text_is there s) =
    texts.number word s.sign s.digits (text_is ∙ ap (λ (x : List ℕ). word ++ 35 ∷ x) s.text_is)
    (type_word v.elem word there) (only_sign v.negative s.sign s.is_sign)
    (only_number s.digits v.size s.number)
only_typed text v (values.truth there e1 e2) = texts.truth (only_truth text v.size there)

pub one_typed : (text : List ℕ) (v w : TypedValue) → IsTypedValue text v → IsTypedValue text w
    → v ≡ w
one_typed text v w x y = let e : Some v ≡ Some w =
    sym (typed_found text v x) ∙ typed_found text w y in cc
