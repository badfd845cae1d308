-- Numerals and numbers: what is read at the front is one, and each one is read.
use Rattle.std.proofs.Common.{◌≡◌, ℕ, zero, suc, ◌+◌, ◌*◌, ◌^◌, ◌<◌, ◌≤◌, Bool, true, false, cond, not, ◌&&◌, ◌||◌, ltb, List, [], ◌∷◌, ◌++◌, length, take, drop, codes, Option, Some, None, refl, sym, ap, subst, ◌∙◌, arith}
use Rattle.std.specs.Prelude.{nat_eq, bytes_eq}
use Rattle.std.specs.List.{list_all, fold, prefix_len, Contains}
use Rattle.std.proofs.Math.Nat.{mul-le-mul_left}
use Rattle.std.proofs.lemmas.Bool.{ltb-true, lt-ltb}
use Rattle.std.proofs.lemmas.Bool.Decides.{nat_tests}
use Rattle.std.proofs.lemmas.List.{length-append}
use Rattle.st_lexer.specs.Bytes.{in_word, begins, worth, is_digit_in, one_more}
use Rattle.st_lexer.specs.Texts as texts
use Rattle.st_lexer.specs.Texts.{IsNumeral, IsNumber, bases}
use Rattle.st_lexer.specs.Faulty.{is_fraction, EndsNumber}
use Rattle.st_lexer.specs.Front.{goes_on, digits_at, base_of, number_by, number_at, longer, word_length, hash_follows}
use Rattle.st_lexer.proofs.Tests.{same, both, clash, or_right}
use Rattle.st_lexer.proofs.Spaced.{goes_well, well_from, joined, is_joined_by}
use Rattle.st_lexer.proofs.Runs.{run_stops, run_within, run_length, run_longest, Front, front_is, split_at, append_assoc_, all_wider, all_of_append}
use Rattle.st_lexer.proofs.Leads.{each_row}

-- ---- numerals

abbrev digit_or_line : ℕ → ℕ → Bool
digit_or_line base b = is_digit_in base b || nat_eq b 95

pub grown : (base value : ℕ) (bs : List ℕ) → 1 ≤ base → value ≤ fold (one_more base) value bs
grown base value [] h = omega arith
grown base value (b ∷ bs) h = by (nat_eq b 95) (grown base (cond (nat_eq b 95) value (value * base + worth b)) bs h)
  where
    by : (v : Bool) → cond v value (value * base + worth b) ≤ fold (one_more base) (cond v value (value * base + worth b)) bs → value ≤ fold (one_more base) (cond v value (value * base + worth b)) bs
    by true k = k
    by false k = let up : value * 1 ≤ value * base = mul-le-mul_left value h in omega (arith, up, k)

pub record Numeral (base value : ℕ) (after : Bool) (bs : List ℕ) : Type 0 where
  pub well : goes_well after bs ≡ true
  pub all : list_all (digit_or_line base) bs ≡ true
  pub small : fold (one_more base) value bs < 2 ^ 128

line_first : (base value b : ℕ) (after : Bool) (bs : List ℕ) → nat_eq b 95 ≡ true → not after ≡ true → Numeral base value true bs → Numeral base value after (b ∷ bs)
line_first base value b true bs is free n = absurd cc
line_first base value b false bs is free n = record {
  well = rw is n.well;
  all = rw (is, or_right (is_digit_in base b)) n.all;
  small = rw is n.small;
}

digit_first : (base value b : ℕ) (after : Bool) (bs : List ℕ) → nat_eq b 95 ≡ false → is_digit_in base b ≡ true → Numeral base (value * base + worth b) false bs → Numeral base value after (b ∷ bs)
digit_first base value b true bs is d n = record { well = rw is n.well; all = rw d n.all; small = rw is n.small }
digit_first base value b false bs is d n = record { well = rw is n.well; all = rw d n.all; small = rw is n.small }

numeral_by : (base value b : ℕ) (after : Bool) (bs : List ℕ) (v : Bool) → nat_eq b 95 ≡ v
    → (goes_on base true value bs ≡ true → Numeral base value true bs)
    → (value * base + worth b < 2 ^ 128 → goes_on base false (value * base + worth b) bs ≡ true → Numeral base (value * base + worth b) false bs)
    → cond v (not after && goes_on base true value bs) (ltb (worth b) base && (ltb (value * base + worth b) (2 ^ 128) && goes_on base false (value * base + worth b) bs)) ≡ true
    → Numeral base value after (b ∷ bs)
numeral_by base value b after bs true is h1 h2 e = let parts = both (not after) (goes_on base true value bs) e in line_first base value b after bs is parts.0 (h1 parts.1)
numeral_by base value b after bs false is h1 h2 e =
    let parts = both (ltb (worth b) base) (ltb (value * base + worth b) (2 ^ 128) && goes_on base false (value * base + worth b) bs) e in
    let more = both (ltb (value * base + worth b) (2 ^ 128)) (goes_on base false (value * base + worth b) bs) parts.1 in
    digit_first base value b after bs is parts.0 (h2 (ltb-true (value * base + worth b) (2 ^ 128) more.0) more.1)

pub numeral : (base value : ℕ) (after : Bool) (bs : List ℕ) → value < 2 ^ 128 → goes_on base after value bs ≡ true → Numeral base value after bs
unfolding goes_on
numeral base value after [] lt e = record { well = e; all = refl; small = lt }
numeral base value after (b ∷ bs) lt e =
    numeral_by base value b after bs (nat_eq b 95) refl (numeral base value true bs lt) (numeral base (value * base + worth b) false bs) e

goes_by : (base value b : ℕ) (after : Bool) (bs : List ℕ) (v : Bool) → nat_eq b 95 ≡ v → 1 ≤ base
    → (Numeral base value true bs → goes_on base true value bs ≡ true)
    → (Numeral base (value * base + worth b) false bs → goes_on base false (value * base + worth b) bs ≡ true)
    → (not (after && v) && goes_well v bs) ≡ true → ((is_digit_in base b || v) && list_all (digit_or_line base) bs) ≡ true
    → fold (one_more base) (cond v value (value * base + worth b)) bs < 2 ^ 128
    → cond v (not after && goes_on base true value bs) (ltb (worth b) base && (ltb (value * base + worth b) (2 ^ 128) && goes_on base false (value * base + worth b) bs)) ≡ true
goes_by base value b true bs true is pos h1 h2 well all small = absurd cc
goes_by base value b false bs true is pos h1 h2 well all small =
    h1 (record { well = well; all = (both (is_digit_in base b || true) (list_all (digit_or_line base) bs) all).1; small = small })
goes_by base value b after bs false is pos h1 h2 well all small =
    let a = both (is_digit_in base b || false) (list_all (digit_or_line base) bs) all in
    let w = both (not (after && false)) (goes_well false bs) well in
    let d : ltb (worth b) base ≡ true = no_right (ltb (worth b) base) a.0 in
    let s : ltb (value * base + worth b) (2 ^ 128) ≡ true = lt-ltb (value * base + worth b) (2 ^ 128) (omega (arith, small, grown base (value * base + worth b) bs pos)) in
    rw (d, s) (h2 (record { well = w.1; all = a.1; small = small }))
  where
    no_right : (v : Bool) → (v || false) ≡ true → v ≡ true
    no_right true e = refl
    no_right false e = e

pub goes : (base value : ℕ) (after : Bool) (bs : List ℕ) → 1 ≤ base → Numeral base value after bs → goes_on base after value bs ≡ true
unfolding goes_on
goes base value after [] pos n = n.well
goes base value after (b ∷ bs) pos n =
    goes_by base value b after bs (nat_eq b 95) refl pos (goes base value true bs pos) (goes base (value * base + worth b) false bs pos) n.well n.all n.small

-- the first byte of a numeral is a digit
line_none : (base b : ℕ) → base ≤ 16 → is_digit_in base b ≡ true → nat_eq b 95 ≡ false
line_none base b le d = grind (arith, nat_tests)

first_by : (base b : ℕ) (bs : List ℕ) → goes_well true (b ∷ bs) ≡ true → list_all (digit_or_line base) (b ∷ bs) ≡ true → is_digit_in base b ≡ true
first_by base b bs w a = by (nat_eq b 95) (both (not (nat_eq b 95)) (goes_well (nat_eq b 95) bs) w).0 (both (is_digit_in base b || nat_eq b 95) (list_all (digit_or_line base) bs) a).0
  where
    by : (v : Bool) → not v ≡ true → (is_digit_in base b || v) ≡ true → is_digit_in base b ≡ true
    by true n h = absurd cc
    by false n h = by_false (is_digit_in base b) h
      where
        by_false : (v : Bool) → (v || false) ≡ true → v ≡ true
        by_false true e = refl
        by_false false e = e

well_weaker : (bs : List ℕ) → goes_well true bs ≡ true → goes_well false bs ≡ true
well_weaker [] e = refl
well_weaker (b ∷ bs) e = (both (not (nat_eq b 95)) (goes_well (nat_eq b 95) bs) e).1

pub is_numeral : (base : ℕ) (text : List ℕ) → goes_on base true 0 text ≡ true → IsNumeral base text
is_numeral base [] e = absurd (none (numeral base 0 true [] (omega arith) e).well)
  where
    none : goes_well true [] ≡ true → ⊥
    none h = cc
is_numeral base (b ∷ bs) e =
    let n = numeral base 0 true (b ∷ bs) (omega arith) e in
    record {
      digits = is_joined_by (is_digit_in base) 95 (b ∷ bs) (record { first = first_by base b bs n.well n.all; all = n.all; spaced = sym (well_from (b ∷ bs)) ∙ well_weaker (b ∷ bs) n.well });
      small = n.small;
    }

pub numeral_goes : (base : ℕ) (text : List ℕ) → 1 ≤ base → base ≤ 16 → IsNumeral base text → goes_on base true 0 text ≡ true
numeral_goes base [] pos le n = absurd (no_first (joined (is_digit_in base) 95 [] n.digits).first)
  where
    no_first : begins (is_digit_in base) [] ≡ true → ⊥
    no_first h = cc
numeral_goes base (b ∷ bs) pos le n =
    let j = joined (is_digit_in base) 95 (b ∷ bs) n.digits in
    let line = line_none base b le j.first in
    let well : goes_well false (b ∷ bs) ≡ true = well_from (b ∷ bs) ∙ j.spaced in
    goes base 0 true (b ∷ bs) pos (record { well = rw line (rw line at well); all = j.all; small = n.small })

digit_in_word : (base b : ℕ) → base ≤ 16 → digit_or_line base b ≡ true → in_word b ≡ true
digit_in_word base b le e = grind (arith, nat_tests)

pub numeral_word : (base : ℕ) (text : List ℕ) → base ≤ 16 → IsNumeral base text → list_all in_word text ≡ true
numeral_word base text le n = all_wider (digit_or_line base) in_word (λ b. digit_in_word base b le) text (joined (is_digit_in base) 95 text n.digits).all

-- ---- numbers

abbrev marks_of : List (List ℕ)
marks_of = codes "2" ∷ codes "8" ∷ codes "16" ∷ []

pub record Based (word : List ℕ) (base : ℕ) : Type 0 where
  pub there : Contains bases (base, word ++ 35 ∷ [])
  pub among : Contains marks_of word
  pub least : 1 ≤ base
  pub most : base ≤ 16

based_by : (word : List ℕ) (base : ℕ) (u v w : Bool) → bytes_eq word (codes "2") ≡ u → bytes_eq word (codes "8") ≡ v → bytes_eq word (codes "16") ≡ w
    → cond u (Some 2) (cond v (Some 8) (cond w (Some 16) None)) ≡ Some base → Based word base
based_by word base true v w e1 e2 e3 h =
    let b : 2 ≡ base = cc in let t = same word (codes "2") e1 in
    rw (t, ← b) (record { there = (0, omega arith, refl); among = (0, omega arith, refl); least = omega arith; most = omega arith })
based_by word base false true w e1 e2 e3 h =
    let b : 8 ≡ base = cc in let t = same word (codes "8") e2 in
    rw (t, ← b) (record { there = (1, omega arith, refl); among = (1, omega arith, refl); least = omega arith; most = omega arith })
based_by word base false false true e1 e2 e3 h =
    let b : 16 ≡ base = cc in let t = same word (codes "16") e3 in
    rw (t, ← b) (record { there = (2, omega arith, refl); among = (2, omega arith, refl); least = omega arith; most = omega arith })
based_by word base false false false e1 e2 e3 h = absurd cc

pub based : (word : List ℕ) (base : ℕ) → base_of word ≡ Some base → Based word base
based word base e = based_by word base (bytes_eq word (codes "2")) (bytes_eq word (codes "8")) (bytes_eq word (codes "16")) refl refl refl e

pub based_none : (word : List ℕ) → base_of word ≡ None → Contains marks_of word → ⊥
based_none word e (zero, lt, at) = let f : base_of word ≡ Some 2 = ap base_of (sym at) in let g : None ≡ Some 2 = sym e ∙ f in cc
based_none word e (suc zero, lt, at) = let f : base_of word ≡ Some 8 = ap base_of (sym at) in let g : None ≡ Some 8 = sym e ∙ f in cc
based_none word e (suc (suc zero), lt, at) = let f : base_of word ≡ Some 16 = ap base_of (sym at) in let g : None ≡ Some 16 = sym e ∙ f in cc
based_none word e (suc (suc (suc i)), lt, at) = absurd (omega (arith, lt))

-- the mark of a base is a word and `#`
pub record Mark (base : ℕ) (mark : List ℕ) : Type 0 where
  pub word : List ℕ
  pub mark_is : mark ≡ word ++ 35 ∷ []
  pub base_is : base_of word ≡ Some base
  pub in_words : list_all in_word word ≡ true
  pub least : 1 ≤ base
  pub most : base ≤ 16

pub mark_of : (base : ℕ) (mark : List ℕ) → Contains bases (base, mark) → Mark base mark
mark_of base mark (zero, lt, at) =
    let b : 2 ≡ base = ap (λ (r : ℕ × List ℕ). r.0) at in let m : codes "2#" ≡ mark = ap (λ (r : ℕ × List ℕ). r.1) at in
    rw (← b, ← m) (record { word = codes "2"; mark_is = refl; base_is = refl; in_words = refl; least = omega arith; most = omega arith })
mark_of base mark (suc zero, lt, at) =
    let b : 8 ≡ base = ap (λ (r : ℕ × List ℕ). r.0) at in let m : codes "8#" ≡ mark = ap (λ (r : ℕ × List ℕ). r.1) at in
    rw (← b, ← m) (record { word = codes "8"; mark_is = refl; base_is = refl; in_words = refl; least = omega arith; most = omega arith })
mark_of base mark (suc (suc zero), lt, at) =
    let b : 16 ≡ base = ap (λ (r : ℕ × List ℕ). r.0) at in let m : codes "16#" ≡ mark = ap (λ (r : ℕ × List ℕ). r.1) at in
    rw (← b, ← m) (record { word = codes "16"; mark_is = refl; base_is = refl; in_words = refl; least = omega arith; most = omega arith })
mark_of base mark (suc (suc (suc i)), lt, at) = absurd (omega (arith, lt))

-- ---- words before a `#`

pub record Hashed (bytes word rest : List ℕ) : Type 0 where
  pub count : word_length bytes ≡ length word
  pub run : take (word_length bytes) bytes ≡ word
  pub behind : drop (word_length bytes) bytes ≡ 35 ∷ rest
  pub further : drop (suc (word_length bytes)) bytes ≡ rest

drop_more : (n : ℕ) (bytes : List ℕ) (b : ℕ) (rest : List ℕ) → drop n bytes ≡ b ∷ rest → drop (suc n) bytes ≡ rest
drop_more zero [] b rest e = cc
drop_more zero (x ∷ bytes) b rest e = cc
drop_more (suc n) [] b rest e = cc
drop_more (suc n) (x ∷ bytes) b rest e = drop_more n bytes b rest e

pub hashed : (bytes word rest : List ℕ) → bytes ≡ word ++ 35 ∷ rest → list_all in_word word ≡ true → Hashed bytes word rest
hashed bytes word rest e h =
    let f = front_is in_word bytes word (35 ∷ rest) e h refl in
    record { count = f.count; run = f.run; behind = f.behind; further = drop_more (word_length bytes) bytes 35 rest f.behind }

-- ---- numbers at the front

pub record Digits (base : ℕ) (bytes : List ℕ) (n : ℕ) : Type 0 where
  pub count : n ≡ word_length bytes
  pub is : IsNumeral base (take n bytes)
  pub fraction : is_fraction (drop n bytes) ≡ false

digits_by : (base n m : ℕ) (bytes : List ℕ) (u v : Bool) → goes_on base true 0 (take n bytes) ≡ u → is_fraction (drop n bytes) ≡ v → n ≡ word_length bytes
    → cond (u && not v) (Some n) None ≡ Some m → Digits base bytes m
digits_by base n m bytes true true e1 e2 c h = absurd cc
digits_by base n m bytes true false e1 e2 c h =
    let same : n ≡ m = cc in
    rw (← same) (record { count = c; is = is_numeral base (take n bytes) e1; fraction = e2 })
digits_by base n m bytes false v e1 e2 c h = absurd cc

pub digits_some : (base : ℕ) (bytes : List ℕ) (m : ℕ) → digits_at base bytes ≡ Some m → Digits base bytes m
unfolding digits_at
digits_some base bytes m e = digits_by base (word_length bytes) m bytes (goes_on base true 0 (take (word_length bytes) bytes)) (is_fraction (drop (word_length bytes) bytes)) refl refl refl e

pub digits_found : (base : ℕ) (bytes digits rest : List ℕ) → 1 ≤ base → base ≤ 16 → bytes ≡ digits ++ rest → IsNumeral base digits → begins in_word rest ≡ false → is_fraction rest ≡ false
    → digits_at base bytes ≡ Some (length digits)
unfolding digits_at
digits_found base bytes digits rest pos le e n stops fraction =
    let f = front_is in_word bytes digits rest e (numeral_word base digits le n) stops in
    let g : goes_on base true 0 (take (word_length bytes) bytes) ≡ true = ap (goes_on base true 0) f.run ∙ numeral_goes base digits pos le n in
    let r : is_fraction (drop (word_length bytes) bytes) ≡ false = ap is_fraction f.behind ∙ fraction in
    rw (g, r) (ap (λ (k : ℕ). Some k) f.count)

pub longer_some : (n m : ℕ) (o : Option ℕ) → longer n o ≡ Some m → (j : ℕ) × (o ≡ Some j) × (n + j ≡ m)
longer_some n m None e = absurd cc
longer_some n m (Some j) e = (j, refl, cc)

-- a number that was read
pub record NumberHere (bytes : List ℕ) (m : ℕ) : Type 0 where
  pub within : m ≤ length bytes
  pub run : word_length bytes ≤ m
  pub is : IsNumber (take m bytes)
  pub ends : EndsNumber (take m bytes) (drop m bytes)

marks_in_words : list_all (λ t. list_all in_word t) marks_of ≡ true
marks_in_words = refl

-- a text with a `#` in it is no mark of a base without its `#`
no_mark : (word rest : List ℕ) → Contains marks_of (word ++ 35 ∷ rest) → ⊥
no_mark word rest h =
    let all = each_row (λ t. list_all in_word t) marks_of (word ++ 35 ∷ rest) marks_in_words h in
    let last : (false && list_all in_word rest) ≡ true = (all_of_append in_word word (35 ∷ rest) all).1 in
    cc

pub take_suc : (n j : ℕ) (bytes word rest : List ℕ) → take n bytes ≡ word → drop n bytes ≡ 35 ∷ rest → n ≡ length word → take (suc n + j) bytes ≡ word ++ 35 ∷ take j rest
take_suc n j bytes word rest e1 e2 len =
    let whole : bytes ≡ word ++ 35 ∷ rest = split_at n bytes ∙ ap (λ (w : List ℕ). w ++ drop n bytes) e1 ∙ ap (λ (r : List ℕ). word ++ r) e2 in
    let count : suc n + j ≡ length word + suc j = omega (arith, len) in
    ap (take (suc n + j)) whole ∙ ap (λ (k : ℕ). take k (word ++ 35 ∷ rest)) count ∙ by word
  where
    by : (w : List ℕ) → take (length w + suc j) (w ++ 35 ∷ rest) ≡ w ++ 35 ∷ take j rest
    by [] = let e : 0 + suc j ≡ suc j = omega arith in rw e refl
    by (x ∷ w) = let e : suc (length w) + suc j ≡ suc (length w + suc j) = omega arith in rw e (ap (λ (t : List ℕ). x ∷ t) (by w))

pub drop_suc : (n j : ℕ) (bytes rest : List ℕ) → drop n bytes ≡ 35 ∷ rest → drop (suc n + j) bytes ≡ drop j rest
drop_suc zero j [] rest e = cc
drop_suc zero j (b ∷ bytes) rest e = let k : suc zero + j ≡ suc j = omega arith in let r : bytes ≡ rest = cc in rw (k, r) refl
drop_suc (suc n) j [] rest e = cc
drop_suc (suc n) j (b ∷ bytes) rest e = let k : suc (suc n) + j ≡ suc (suc n + j) = omega arith in rw k (drop_suc n j bytes rest e)

pub hash_first : (bytes : List ℕ) → begins (nat_eq 35) bytes ≡ true → (rest : List ℕ) × (bytes ≡ 35 ∷ rest)
hash_first [] e = cc
hash_first (b ∷ bytes) e = (bytes, ap (λ (x : ℕ). x ∷ bytes) (sym (same_byte b e)))
  where
    same_byte : (b : ℕ) → nat_eq 35 b ≡ true → 35 ≡ b
    same_byte b h = grind (arith, nat_tests)

based_here : (bytes : List ℕ) (base m : ℕ) → base_of (take (word_length bytes) bytes) ≡ Some base → hash_follows (drop (word_length bytes) bytes) ≡ true
    → longer (suc (word_length bytes)) (digits_at base (drop (suc (word_length bytes)) bytes)) ≡ Some m → NumberHere bytes m
based_here bytes base m b h e =
    let n = word_length bytes in
    let word = take n bytes in
    let hash = hash_first (drop n bytes) h in
    let rest = hash.0 in
    let further : drop (suc n) bytes ≡ rest = drop_more n bytes 35 rest hash.1 in
    let l = longer_some (suc n) m (digits_at base (drop (suc n) bytes)) e in
    let j = l.0 in
    let d = digits_some base rest j (ap (digits_at base) (sym further) ∙ l.1) in
    let text : take m bytes ≡ word ++ 35 ∷ take j rest = ap (λ (k : ℕ). take k bytes) (sym l.2) ∙ take_suc n j bytes word rest refl hash.1 (sym (run_length in_word bytes)) in
    let after : drop m bytes ≡ drop j rest = ap (λ (k : ℕ). drop k bytes) (sym l.2) ∙ drop_suc n j bytes rest hash.1 in
    let whole : length bytes ≡ n + suc (length rest) = ap length (split_at n bytes) ∙ length-append word (drop n bytes) ∙ ap (λ (k : ℕ). k + length (drop n bytes)) (run_length in_word bytes) ∙ ap (λ (r : List ℕ). n + length r) hash.1 in
    let inner : j ≤ length rest = omega (arith, d.count, run_within in_word rest) in
    let is_based = based word base b in
    record {
      within = omega (arith, whole, inner, l.2);
      run = omega (arith, l.2);
      is = subst IsNumber (sym text) (texts.based base (word ++ 35 ∷ []) (take j rest) is_based.there (sym (append_assoc_ word (35 ∷ []) (take j rest))) d.is);
      ends = record {
        word = rw after (ap (λ (k : ℕ). begins in_word (drop k rest)) d.count ∙ run_stops in_word rest);
        fraction = rw after d.fraction;
        base = λ there. absurd (no_mark word (take j rest) (subst (λ (t : List ℕ). Contains marks_of t) text there));
      };
    }

decimal_here : (bytes : List ℕ) (m : ℕ) → digits_at 10 bytes ≡ Some m → (Contains marks_of (take (word_length bytes) bytes) → hash_follows (drop (word_length bytes) bytes) ≡ false) → NumberHere bytes m
decimal_here bytes m e h =
    let d = digits_some 10 bytes m e in
    record {
      within = omega (arith, d.count, run_within in_word bytes);
      run = omega (arith, d.count);
      is = texts.decimal d.is;
      ends = record {
        word = ap (λ (k : ℕ). begins in_word (drop k bytes)) d.count ∙ run_stops in_word bytes;
        fraction = d.fraction;
        base = λ there. ap (λ (k : ℕ). hash_follows (drop k bytes)) d.count ∙ h (subst (λ (k : ℕ). Contains marks_of (take k bytes)) d.count there);
      };
    }

number_by_some : (bytes : List ℕ) (m : ℕ) (o : Option ℕ) (v : Bool) → base_of (take (word_length bytes) bytes) ≡ o → hash_follows (drop (word_length bytes) bytes) ≡ v
    → number_by o v bytes ≡ Some m → NumberHere bytes m
number_by_some bytes m (Some base) true b h e = based_here bytes base m b h e
number_by_some bytes m (Some base) false b h e = decimal_here bytes m e (λ there. h)
number_by_some bytes m None v b h e = decimal_here bytes m e (λ there. absurd (based_none (take (word_length bytes) bytes) b there))

-- what is read is a number that ends there
pub number_some : (bytes : List ℕ) (m : ℕ) → number_at bytes ≡ Some m → NumberHere bytes m
unfolding number_at
number_some bytes m e = number_by_some bytes m (base_of (take (word_length bytes) bytes)) (hash_follows (drop (word_length bytes) bytes)) refl refl e

-- ---- a number that stands there is read, and none is longer

number_is_based : (bytes digits rest : List ℕ) (base : ℕ) (m : List ℕ) (k : Mark base m) → bytes ≡ (m ++ digits) ++ rest → Hashed bytes k.word (digits ++ rest)
number_is_based bytes digits rest base m k e =
    hashed bytes k.word (digits ++ rest) (e ∙ ap (λ (x : List ℕ). (x ++ digits) ++ rest) k.mark_is ∙ ap (λ (x : List ℕ). x ++ rest) (append_assoc_ k.word (35 ∷ []) digits) ∙ append_assoc_ k.word (35 ∷ digits) rest) k.in_words

number_reads : (bytes digits rest : List ℕ) (base : ℕ) (m : List ℕ) (k : Mark base m) → Hashed bytes k.word (digits ++ rest) → number_at bytes ≡ longer (suc (word_length bytes)) (digits_at base (digits ++ rest))
unfolding number_at
number_reads bytes digits rest base m k h =
    let b : base_of (take (word_length bytes) bytes) ≡ Some base = ap base_of h.run ∙ k.base_is in
    let v : hash_follows (drop (word_length bytes) bytes) ≡ true = ap hash_follows h.behind in
    rw (b, v, h.further) refl

pub number_bound : (bytes text rest : List ℕ) (m : ℕ) → number_at bytes ≡ Some m → bytes ≡ text ++ rest → IsNumber text → length text ≤ m
number_bound bytes text rest m e at (texts.decimal n) =
    let most = run_longest in_word text rest (numeral_word 10 text (omega arith) n) in
    let here = number_some bytes m e in
    omega (arith, most, here.run, ap (prefix_len in_word) at)
number_bound bytes text rest m e at (texts.based base mark digits there text_is n) =
    let k = mark_of base mark there in
    let h = number_is_based bytes digits rest base mark k (at ∙ ap (λ (x : List ℕ). x ++ rest) text_is) in
    let l = longer_some (suc (word_length bytes)) m (digits_at base (digits ++ rest)) (sym (number_reads bytes digits rest base mark k h) ∙ e) in
    let d = digits_some base (digits ++ rest) l.0 l.1 in
    let most = run_longest in_word digits rest (numeral_word base digits k.most n) in
    let len : length text ≡ length k.word + 1 + length digits = ap length text_is ∙ ap (λ (x : List ℕ). length (x ++ digits)) k.mark_is ∙ length-append (k.word ++ 35 ∷ []) digits ∙ ap (λ (x : ℕ). x + length digits) (length-append k.word (35 ∷ [])) in
    omega (arith, len, h.count, l.2, d.count, most)

pub number_found : (bytes text rest : List ℕ) → bytes ≡ text ++ rest → IsNumber text → EndsNumber text rest → number_at bytes ≡ Some (length text)
unfolding number_at
number_found bytes text rest at (texts.decimal n) ends =
    by (base_of (take (word_length bytes) bytes)) (hash_follows (drop (word_length bytes) bytes)) refl refl
  where
    f : Front in_word bytes text rest
    f = front_is in_word bytes text rest at (numeral_word 10 text (omega arith) n) ends.word

    d : digits_at 10 bytes ≡ Some (length text)
    d = digits_found 10 bytes text rest (omega arith) (omega arith) at n ends.word ends.fraction

    by : (o : Option ℕ) (v : Bool) → base_of (take (word_length bytes) bytes) ≡ o → hash_follows (drop (word_length bytes) bytes) ≡ v → number_by o v bytes ≡ Some (length text)
    by None v b h = d
    by (Some base) false b h = d
    by (Some base) true b h =
        let there = (based text base (ap base_of (sym f.run) ∙ b)).among in
        absurd (clash (hash_follows (drop (word_length bytes) bytes)) h (ap hash_follows f.behind ∙ ends.base there))
number_found bytes text rest at (texts.based base mark digits there text_is n) ends =
    let k = mark_of base mark there in
    let h = number_is_based bytes digits rest base mark k (at ∙ ap (λ (x : List ℕ). x ++ rest) text_is) in
    let d = digits_found base (digits ++ rest) digits rest k.least k.most refl n ends.word ends.fraction in
    let len : length text ≡ length k.word + 1 + length digits = ap length text_is ∙ ap (λ (x : List ℕ). length (x ++ digits)) k.mark_is ∙ length-append (k.word ++ 35 ∷ []) digits ∙ ap (λ (x : ℕ). x + length digits) (length-append k.word (35 ∷ [])) in
    number_reads bytes digits rest base mark k h ∙ ap (longer (suc (word_length bytes))) d ∙ ap (λ (x : ℕ). Some x) (omega (arith, len, h.count))
