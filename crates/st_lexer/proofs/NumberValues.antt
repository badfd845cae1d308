-- The values of numbers: what is read of a whole text is one, and each one is read.
use Rattle.std.proofs.Common.{◌≡◌, ℕ, zero, suc, ◌+◌, ◌*◌, ◌^◌, ◌<◌, ◌≤◌, Bool, true, false, cond, not, ◌&&◌, ◌||◌, List, [], ◌∷◌, ◌++◌, length, take, drop, codes, Option, Some, None, refl, sym, ap, ◌∙◌, arith}
use Rattle.std.specs.Prelude.{nat_eq, bytes_eq}
use Rattle.std.specs.List.{list_all, fold, Contains}
use Rattle.std.proofs.Math.Nat.{pow-zero, pow-succ'}
use Rattle.st_lexer.specs.Bytes.{worth, is_digit_in, one_more, value_in}
use Rattle.st_lexer.specs.Texts as texts
use Rattle.st_lexer.specs.Texts.{IsNumeral, IsNumber, bases}
use Rattle.st_lexer.specs.Front.{goes_on}
use Rattle.st_lexer.specs.Values as values
use Rattle.st_lexer.specs.Values.{plain_digits, positional, IsNumberValue}
use Rattle.st_lexer.specs.steps.Readings.{read_numeral, read_number}
use Rattle.st_lexer.proofs.Tests.{same, false_by}
use Rattle.st_lexer.proofs.Spaced.{joined}
use Rattle.st_lexer.proofs.Runs.{split_at}
use Rattle.st_lexer.proofs.Numerals.{is_numeral, numeral_goes, mark_of}

-- ---- digits by their places

grown_by : (v b e w p f : ℕ) → f ≡ (v * b + w) * e + p → f ≡ v * (b * e) + (w * e + p)
grown_by v b e w p f h = omega (arith, h)

folded : (base value : ℕ) (bs : List ℕ)
    → fold (one_more base) value bs
    ≡ value * base ^ length (plain_digits bs) + positional base (plain_digits bs)
folded base value [] = let one : value ≡ value * 1 + 0 =
    omega arith in one ∙ ap (λ (x : ℕ). value * x + 0) (sym (pow-zero base))
folded base value (b ∷ bs) =
    by (nat_eq b 95) (folded base value bs) (folded base (value * base + worth b) bs)
  where
    by : (v : Bool)
        → fold (one_more base) value bs
        ≡ value * base ^ length (plain_digits bs) + positional base (plain_digits bs)
        → fold (one_more base) (value * base + worth b) bs
        ≡ (value * base + worth b) * base ^ length (plain_digits bs) + positional base
        (plain_digits bs)
        → fold (one_more base) (cond v value (value * base + worth b)) bs
        ≡ value * base ^ length
        (cond (not v) (b ∷ plain_digits bs) (plain_digits bs)) + positional base
        (cond (not v) (b ∷ plain_digits bs) (plain_digits bs))
    by true h k = h
    by false h k =
        let e = base ^ length (plain_digits bs) in
        let up : base ^ suc (length (plain_digits bs)) ≡ base * e =
        pow-succ' base (length (plain_digits bs)) in
        grown_by value base e (worth b) (positional base (plain_digits bs))
        (fold (one_more base) (value * base + worth b) bs) k
        ∙ ap (λ (x : ℕ). value * x + (worth b * e + positional base (plain_digits bs))) (sym up)

-- the running value is the number that the digits make
pub by_places : (base : ℕ) (bs : List ℕ) → value_in base bs ≡ positional base (plain_digits bs)
by_places base bs = folded base 0 bs ∙ omega arith

-- ---- numerals

pub record NumeralValue (base : ℕ) (bytes : List ℕ) (value : ℕ) : Type 0 where
  pub is : IsNumeral base bytes
  pub value_is : value ≡ positional base (plain_digits bytes)

numeral_some : (base : ℕ) (bytes : List ℕ) (value : ℕ) → read_numeral base bytes ≡ Some value
    → NumeralValue base bytes value
numeral_some base bytes value e = by (goes_on base true 0 bytes) refl e
  where
    by : (v : Bool) → goes_on base true 0 bytes ≡ v
        → cond v (Some (value_in base bytes)) None ≡ Some value → NumeralValue base bytes value
    by true goes h = let is : value_in base bytes ≡ value =
        cc in record { is = is_numeral base bytes goes; value_is = sym is ∙ by_places base bytes }
    by false goes h = absurd cc

numeral_found : (base : ℕ) (bytes : List ℕ) (value : ℕ) → 1 ≤ base → base ≤ 16
    → IsNumeral base bytes → value ≡ positional base (plain_digits bytes)
    → read_numeral base bytes ≡ Some value
numeral_found base bytes value pos le is e =
    rw (numeral_goes base bytes pos le is) (ap (λ (n : ℕ). Some n) (by_places base bytes ∙ sym e))

-- ---- numbers

begun : (n : ℕ) (text mark : List ℕ) → bytes_eq (take n text) mark ≡ true
    → text ≡ mark ++ drop n text
begun n text mark e =
    split_at n text ∙ ap (λ (t : List ℕ). t ++ drop n text) (same (take n text) mark e)

abbrev by_mark : (u v w : Bool) → List ℕ → Option ℕ
by_mark u v w text =
    cond u (read_numeral 2 (drop 2 text))
    (cond v (read_numeral 8 (drop 2 text))
    (cond w (read_numeral 16 (drop 3 text)) (read_numeral 10 text)))

number_some_by : (text : List ℕ) (value : ℕ) (u v w : Bool)
    → bytes_eq (take 2 text) (codes "2#") ≡ u → bytes_eq (take 2 text) (codes "8#") ≡ v
    → bytes_eq (take 3 text) (codes "16#") ≡ w → by_mark u v w text ≡ Some value
    → IsNumberValue text value
number_some_by text value true v w e1 e2 e3 h =
    let n = numeral_some 2 (drop 2 text) value h in
    values.based 2 (codes "2#") (drop 2 text) (0, omega arith, refl)
    (begun 2 text (codes "2#") e1) n.is n.value_is
number_some_by text value false true w e1 e2 e3 h =
    let n = numeral_some 8 (drop 2 text) value h in
    values.based 8 (codes "8#") (drop 2 text) (1, omega arith, refl)
    (begun 2 text (codes "8#") e2) n.is n.value_is
number_some_by text value false false true e1 e2 e3 h =
    let n = numeral_some 16 (drop 3 text) value h in
    values.based 16 (codes "16#") (drop 3 text) (2, omega arith, refl)
    (begun 3 text (codes "16#") e3) n.is n.value_is
number_some_by text value false false false e1 e2 e3 h = let n =
    numeral_some 10 text value h in values.decimal n.is n.value_is

pub number_some : (text : List ℕ) (value : ℕ) → read_number text ≡ Some value
    → IsNumberValue text value
unfolding read_number
number_some text value e =
    number_some_by text value (bytes_eq (take 2 text) (codes "2#"))
    (bytes_eq (take 2 text) (codes "8#"))
    (bytes_eq (take 3 text) (codes "16#")) refl refl refl e

-- a decimal numeral holds no `#`
abbrev decimal_byte : ℕ → Bool
decimal_byte b = is_digit_in 10 b || nat_eq b 95

two_hash : (a : ℕ) (rest : List ℕ) → list_all decimal_byte (a ∷ 35 ∷ rest) ≡ true → ⊥
two_hash a rest e = by (decimal_byte a) e
  where
    by : (v : Bool) → (v && (false && list_all decimal_byte rest)) ≡ true → ⊥
    by true h = cc
    by false h = cc

three_hash : (a b : ℕ) (rest : List ℕ) → list_all decimal_byte (a ∷ b ∷ 35 ∷ rest) ≡ true → ⊥
three_hash a b rest e = by (decimal_byte a) (decimal_byte b) e
  where
    by : (v w : Bool) → (v && (w && (false && list_all decimal_byte rest))) ≡ true → ⊥
    by true true h = cc
    by true false h = cc
    by false w h = cc

decimal_found : (text : List ℕ) (value : ℕ) → IsNumeral 10 text
    → value ≡ positional 10 (plain_digits text) → read_number text ≡ Some value
unfolding read_number
decimal_found text value is e =
    let all = (joined (is_digit_in 10) 95 text is.digits).all in
    let no_two : bytes_eq (take 2 text) (codes "2#") ≡ false =
    false_by _
    (λ h. two_hash 50 (drop 2 text)
    (ap (list_all decimal_byte) (sym (begun 2 text (codes "2#") h)) ∙ all)) in
    let no_eight : bytes_eq (take 2 text) (codes "8#") ≡ false =
    false_by _
    (λ h. two_hash 56 (drop 2 text)
    (ap (list_all decimal_byte) (sym (begun 2 text (codes "8#") h)) ∙ all)) in
    let no_sixteen : bytes_eq (take 3 text) (codes "16#") ≡ false =
    false_by _
    (λ h. three_hash 49 54 (drop 3 text)
    (ap (list_all decimal_byte) (sym (begun 3 text (codes "16#") h)) ∙ all)) in
    rw (no_two, no_eight, no_sixteen) (numeral_found 10 text value (omega arith) (omega arith) is e)

marked : (base : ℕ) (mark digits : List ℕ) → Contains bases (base, mark)
    → read_number (mark ++ digits) ≡ read_numeral base digits
unfolding read_number
marked base mark digits (zero, lt, at) =
    rw (← ap (λ (r : ℕ × List ℕ). r.0) at, ← ap (λ (r : ℕ × List ℕ). r.1) at) refl
marked base mark digits (suc zero, lt, at) =
    rw (← ap (λ (r : ℕ × List ℕ). r.0) at, ← ap (λ (r : ℕ × List ℕ). r.1) at) refl
marked base mark digits (suc (suc zero), lt, at) =
    rw (← ap (λ (r : ℕ × List ℕ). r.0) at, ← ap (λ (r : ℕ × List ℕ). r.1) at) refl
marked base mark digits (suc (suc (suc i)), lt, at) = absurd (omega (arith, lt))

pub number_found : (text : List ℕ) (value : ℕ) → IsNumberValue text value
    → read_number text ≡ Some value
number_found text value (values.decimal is e) = decimal_found text value is e
number_found text value (values.based base mark digits there text_is is e) =
    let k = mark_of base mark there in
    ap read_number text_is ∙ marked base mark digits there
    ∙ numeral_found base digits value k.least k.most is e

-- ---- each number has a value, and what has one is a number

pub some_number : (text : List ℕ) → IsNumber text → (value : ℕ) × IsNumberValue text value
some_number text (texts.decimal is) = (positional 10 (plain_digits text), values.decimal is refl)
some_number text (texts.based base mark digits there text_is is) =
    (positional base (plain_digits digits), values.based base mark digits there text_is is refl)

pub only_number : (text : List ℕ) (value : ℕ) → IsNumberValue text value → IsNumber text
only_number text value (values.decimal is e) = texts.decimal is
only_number text value (values.based base mark digits there text_is is e) =
    texts.based base mark digits there text_is is

pub one_number : (text : List ℕ) (v w : ℕ) → IsNumberValue text v → IsNumberValue text w → v ≡ w
one_number text v w x y = let e : Some v ≡ Some w =
    sym (number_found text v x) ∙ number_found text w y in cc

small_number : (base : ℕ) (bytes : List ℕ) (value : ℕ) → IsNumeral base bytes
    → value ≡ positional base (plain_digits bytes) → value < 2 ^ 128
small_number base bytes value is e = omega (arith, is.small, by_places base bytes, e)

-- the value of a number is below 2^128
pub number_small : (text : List ℕ) (value : ℕ) → IsNumberValue text value → value < 2 ^ 128
number_small text value (values.decimal is e) = small_number 10 text value is e
number_small text value (values.based base mark digits there text_is is e) =
    small_number base digits value is e
