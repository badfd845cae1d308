-- What reads a time reads the same of letters in either case.
use Rattle.std.proofs.Common.{◌≡◌, ℕ, zero, suc, ◌+◌, ◌-◌, ◌*◌, ◌^◌, Bool, true, false, cond, ◌&&◌, ltb, leb, List, [], ◌∷◌, ◌++◌, length, map, take, drop, Option, Some, None, refl, ap, ◌∙◌, arith}
use Rattle.std.specs.Prelude.{nat_eq}
use Rattle.std.specs.List.{prefix_len}
use Rattle.std.proofs.lemmas.Bool.Decides.{nat_tests}
use Rattle.iec_tables.specs.Letters.{raised}
use Rattle.st_lexer.specs.declared.times.Part.{Part}
use Rattle.st_lexer.specs.Bytes.{is_alphabetic, is_digit, in_word, begins}
use Rattle.st_lexer.specs.Front.{and_then, whole_length, fraction_at, letters_length, unit_size, value_on, part_of, part_at, parts_at, link_length, longer, time_at, above_units}

pub raised_digit : (b : ℕ) → is_digit (raised b) ≡ is_digit b
raised_digit b = grind (arith, nat_tests)

raised_alphabetic : (b : ℕ) → is_alphabetic (raised b) ≡ is_alphabetic b
raised_alphabetic b = grind (arith, nat_tests)

raised_in_word : (b : ℕ) → in_word (raised b) ≡ in_word b
raised_in_word b = grind (arith, nat_tests)

raised_dot : (b : ℕ) → nat_eq 46 (raised b) ≡ nat_eq 46 b
raised_dot b = grind (arith, nat_tests)

raised_line : (b : ℕ) → nat_eq 95 (raised b) ≡ nat_eq 95 b
raised_line b = grind (arith, nat_tests)

raised_minus : (b : ℕ) → nat_eq 45 (raised b) ≡ nat_eq 45 b
raised_minus b = grind (arith, nat_tests)

raised_twice : (b : ℕ) → raised (raised b) ≡ raised b
raised_twice b = grind (arith, nat_tests)

digit_stays : (b : ℕ) → is_digit b ≡ true → raised b ≡ b
digit_stays b e = grind (arith, nat_tests)

pub all_twice : (bs : List ℕ) → map raised (map raised bs) ≡ map raised bs
all_twice [] = refl
all_twice (b ∷ bs) = ap (λ (x : ℕ). x ∷ map raised (map raised bs)) (raised_twice b) ∙ ap (λ (t : List ℕ). raised b ∷ t) (all_twice bs)

pub length_raised : (bs : List ℕ) → length (map raised bs) ≡ length bs
length_raised [] = refl
length_raised (b ∷ bs) = ap suc (length_raised bs)

pub raised_append : (xs ys : List ℕ) → map raised (xs ++ ys) ≡ map raised xs ++ map raised ys
raised_append [] ys = refl
raised_append (x ∷ xs) ys = ap (λ (z : List ℕ). raised x ∷ z) (raised_append xs ys)

pub take_raised : (n : ℕ) (bs : List ℕ) → take n (map raised bs) ≡ map raised (take n bs)
take_raised zero bs = refl
take_raised (suc n) [] = refl
take_raised (suc n) (b ∷ bs) = ap (λ (t : List ℕ). raised b ∷ t) (take_raised n bs)

pub drop_raised : (n : ℕ) (bs : List ℕ) → drop n (map raised bs) ≡ map raised (drop n bs)
drop_raised zero bs = refl
drop_raised (suc n) [] = refl
drop_raised (suc n) (b ∷ bs) = drop_raised n bs

pub begins_raised : (test : ℕ → Bool) → ((b : ℕ) → test (raised b) ≡ test b) → (bs : List ℕ) → begins test (map raised bs) ≡ begins test bs
begins_raised test h [] = refl
begins_raised test h (b ∷ bs) = h b

run_raised : (test : ℕ → Bool) → ((b : ℕ) → test (raised b) ≡ test b) → (bs : List ℕ) → prefix_len test (map raised bs) ≡ prefix_len test bs
run_raised test h [] = refl
run_raised test h (b ∷ bs) = rw (h b, run_raised test h bs) refl

pub word_raised : (bs : List ℕ) → begins in_word (map raised bs) ≡ begins in_word bs
word_raised bs = begins_raised in_word raised_in_word bs

whole_raised : (bs : List ℕ) → whole_length (map raised bs) ≡ whole_length bs
whole_raised bs = run_raised is_digit raised_digit bs

letters_raised : (bs : List ℕ) → letters_length (map raised bs) ≡ letters_length bs
letters_raised bs = run_raised is_alphabetic raised_alphabetic bs

fraction_raised : (bs : List ℕ) → fraction_at (map raised bs) ≡ fraction_at bs
fraction_raised bs =
    let first = begins_raised (nat_eq 46) raised_dot bs in
    let count : prefix_len is_digit (drop 1 (map raised bs)) ≡ prefix_len is_digit (drop 1 bs) = ap (prefix_len is_digit) (drop_raised 1 bs) ∙ run_raised is_digit raised_digit (drop 1 bs) in
    rw (first, count) refl

unit_raised : (bs : List ℕ) → unit_size (map raised bs) ≡ unit_size bs
unfolding unit_size
unit_raised bs = rw (all_twice bs) refl

value_by : (v b : ℕ) (bs : List ℕ) (t : Bool) → is_digit b ≡ t → ((w : ℕ) → value_on w (map raised bs) ≡ value_on w bs)
    → cond (is_digit (raised b)) (cond (ltb (v * 10 + (raised b - 48)) (2 ^ 100)) (value_on (v * 10 + (raised b - 48)) (map raised bs)) None) (value_on v (map raised bs))
    ≡ cond (is_digit b) (cond (ltb (v * 10 + (b - 48)) (2 ^ 100)) (value_on (v * 10 + (b - 48)) bs) None) (value_on v bs)
value_by v b bs true e h = rw (raised_digit b, e, digit_stays b e, h (v * 10 + (b - 48))) refl
value_by v b bs false e h = rw (raised_digit b, e, h v) refl

value_raised : (v : ℕ) (bs : List ℕ) → value_on v (map raised bs) ≡ value_on v bs
unfolding value_on
value_raised v [] = refl
value_raised v (b ∷ bs) = value_by v b bs (is_digit b) refl (λ w. value_raised w bs)

-- ---- parts

abbrev rest_part : List ℕ → ℕ → Option Part
rest_part bytes point =
    and_then (unit_size (take (letters_length (drop (whole_length bytes + point) bytes)) (drop (whole_length bytes + point) bytes))) (λ size.
    and_then (value_on 0 (take (whole_length bytes + point) bytes)) (λ value.
    part_of (whole_length bytes) point (letters_length (drop (whole_length bytes + point) bytes)) size value))

rest_raised : (bytes : List ℕ) (point : ℕ) → rest_part (map raised bytes) point ≡ rest_part bytes point
rest_raised bytes point =
    let w = whole_raised bytes in
    let k = whole_length bytes + point in
    let l : letters_length (drop (whole_length (map raised bytes) + point) (map raised bytes)) ≡ letters_length (drop k bytes) =
    ap (λ (n : ℕ). letters_length (drop (n + point) (map raised bytes))) w ∙ ap letters_length (drop_raised k bytes) ∙ letters_raised (drop k bytes) in
    let d : drop (whole_length (map raised bytes) + point) (map raised bytes) ≡ map raised (drop k bytes) = ap (λ (n : ℕ). drop (n + point) (map raised bytes)) w ∙ drop_raised k bytes in
    let u : unit_size (take (letters_length (drop (whole_length (map raised bytes) + point) (map raised bytes))) (drop (whole_length (map raised bytes) + point) (map raised bytes))) ≡ unit_size (take (letters_length (drop k bytes)) (drop k bytes)) =
    ap (λ (n : ℕ). unit_size (take n (drop (whole_length (map raised bytes) + point) (map raised bytes)))) l ∙ ap (λ (t : List ℕ). unit_size (take (letters_length (drop k bytes)) t)) d
    ∙ ap unit_size (take_raised (letters_length (drop k bytes)) (drop k bytes)) ∙ unit_raised (take (letters_length (drop k bytes)) (drop k bytes)) in
    let v : value_on 0 (take (whole_length (map raised bytes) + point) (map raised bytes)) ≡ value_on 0 (take k bytes) =
    ap (λ (n : ℕ). value_on 0 (take (n + point) (map raised bytes))) w ∙ ap (value_on 0) (take_raised k bytes) ∙ value_raised 0 (take k bytes) in
    rw (u, v, l, w) refl

pub part_raised : (bytes : List ℕ) → part_at (map raised bytes) ≡ part_at bytes
unfolding part_at
part_raised bytes =
    let w = whole_raised bytes in
    let f : fraction_at (drop (whole_length (map raised bytes)) (map raised bytes)) ≡ fraction_at (drop (whole_length bytes) bytes) =
    ap (λ (n : ℕ). fraction_at (drop n (map raised bytes))) w ∙ ap fraction_at (drop_raised (whole_length bytes) bytes) ∙ fraction_raised (drop (whole_length bytes) bytes) in
    ap (λ (o : Option ℕ). and_then o (rest_part (map raised bytes))) f ∙ by (fraction_at (drop (whole_length bytes) bytes))
  where
    by : (o : Option ℕ) → and_then o (rest_part (map raised bytes)) ≡ and_then o (rest_part bytes)
    by None = refl
    by (Some point) = rest_raised bytes point

pub link_raised : (bs : List ℕ) → link_length (map raised bs) ≡ link_length bs
link_raised bs = rw (begins_raised (nat_eq 95) raised_line bs) refl

pub parts_raised : (n above left : ℕ) (bytes : List ℕ) → parts_at n above left (map raised bytes) ≡ parts_at n above left bytes
unfolding parts_at
parts_raised zero above left bytes = refl
parts_raised (suc n) above left bytes = rw (part_raised bytes) (by (part_at bytes) (λ p k. parts_raised n p.size (left - p.value) (drop k bytes)))
  where
    by : (o : Option Part) → ((p : Part) (k : ℕ) → parts_at n p.size (left - p.value) (map raised (drop k bytes)) ≡ parts_at n p.size (left - p.value) (drop k bytes))
        → and_then o (λ p. cond (ltb p.size above && leb p.value left)
        (cond (begins in_word (drop p.length (map raised bytes)))
        (cond p.last None (longer (p.length + link_length (drop p.length (map raised bytes))) (parts_at n p.size (left - p.value) (drop (p.length + link_length (drop p.length (map raised bytes))) (map raised bytes)))))
        (Some p.length))
        None)
        ≡ and_then o (λ p. cond (ltb p.size above && leb p.value left)
        (cond (begins in_word (drop p.length bytes))
        (cond p.last None (longer (p.length + link_length (drop p.length bytes)) (parts_at n p.size (left - p.value) (drop (p.length + link_length (drop p.length bytes)) bytes))))
        (Some p.length))
        None)
    by None h = refl
    by (Some p) h =
        let w : begins in_word (drop p.length (map raised bytes)) ≡ begins in_word (drop p.length bytes) = ap (begins in_word) (drop_raised p.length bytes) ∙ word_raised (drop p.length bytes) in
        let l : link_length (drop p.length (map raised bytes)) ≡ link_length (drop p.length bytes) = ap link_length (drop_raised p.length bytes) ∙ link_raised (drop p.length bytes) in
        let k = p.length + link_length (drop p.length bytes) in
        let t : parts_at n p.size (left - p.value) (drop k (map raised bytes)) ≡ parts_at n p.size (left - p.value) (drop k bytes) = ap (parts_at n p.size (left - p.value)) (drop_raised k bytes) ∙ h p k in
        rw (w, l, t) refl

pub time_raised : (bytes : List ℕ) → time_at (map raised bytes) ≡ time_at bytes
unfolding time_at
time_raised bytes =
    let m = begins_raised (nat_eq 45) raised_minus bytes in
    let n = length_raised bytes in
    let d : parts_at (length bytes) above_units (2 ^ 63) (drop 1 (map raised bytes)) ≡ parts_at (length bytes) above_units (2 ^ 63) (drop 1 bytes) = ap (parts_at (length bytes) above_units (2 ^ 63)) (drop_raised 1 bytes) ∙ parts_raised (length bytes) above_units (2 ^ 63) (drop 1 bytes) in
    let w = parts_raised (suc (length bytes)) above_units (2 ^ 63 - 1) bytes in
    rw (m, n, d, w) refl
