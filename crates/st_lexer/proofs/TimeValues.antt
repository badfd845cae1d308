-- The values of times: what is read of a whole text is one, and each time is read.
use Rattle.std.proofs.Common.{◌≡◌, ℕ, zero, suc, ◌+◌, ◌-◌, ◌^◌, ◌<◌, ◌≤◌, ℤ, pos, neg_ℤ, Bool, true, false, cond, ◌&&◌, ◌||◌, ◌⊎◌, inl, inr, leb, ltb, List, [], ◌∷◌, ◌++◌, length, map, take, drop, codes, Option, Some, None, refl, sym, ap, subst, ◌∙◌, arith}
use Rattle.std.specs.Prelude.{nat_eq, bytes_eq}
use Rattle.std.specs.List.{list_all, list_any, Contains}
use Rattle.std.proofs.lemmas.Bool.{eqb-true, ltb-true, lt-ltb, leb-true, le-leb}
use Rattle.std.proofs.lemmas.List.{append-nil, length-append, length-drop, take_all}
use Rattle.iec_tables.specs.Letters.{raised}
use Rattle.st_lexer.specs.declared.times.Part.{Part as Seen}
use Rattle.st_lexer.specs.Bytes.{is_alphabetic, is_digit, begins}
use Rattle.st_lexer.specs.Texts.{is_word_of}
use Rattle.st_lexer.specs.Times.{Part, dotted, part_text, milliseconds, IsPart, ArePartsOf, sum_of, greatest, sign_of, IsTime}
use Rattle.st_lexer.specs.Front.{above_units, and_then, hash_follows, link_length, part_at, word_length}
use Rattle.st_lexer.specs.Values.{with_sign, IsTimeValue}
use Rattle.st_lexer.specs.steps.Readings.{added, read_parts, whole_parts, as_negative, as_positive, behind_word, read_time}
use Rattle.st_lexer.proofs.Tests.{same, false_by}
use Rattle.st_lexer.proofs.Runs.{drop_front, split_at, append_assoc_, cons_first, cons_rest}
use Rattle.st_lexer.proofs.Leads.{is_capital, capitals, all_letters, raised_same, raised_split, one_of_two}
use Rattle.st_lexer.proofs.Numerals.{hashed, hash_first}
use Rattle.st_lexer.proofs.Raising.{all_twice, raised_append, length_raised, drop_raised, raised_digit, part_raised, link_raised}
use Rattle.st_lexer.proofs.Durations.{IsRaised, unit_is, part_length, part_found, PartHere, part_some}
use Rattle.st_lexer.proofs.DurationParts.{link_is, parts_first, linked, left_over, small_part}

-- ---- letters in either case

raised_parts : (n above left : ℕ) (bytes : List ℕ)
    → read_parts n above left (map raised bytes) ≡ read_parts n above left bytes
unfolding read_parts
raised_parts zero above left bytes = refl
raised_parts (suc n) above left bytes =
    rw (part_raised bytes) (by (part_at bytes) (λ p xs. raised_parts n p.size (left - p.value) xs))
  where
    by : (o : Option Seen)
        → ((p : Seen) (xs : List ℕ)
        → read_parts n p.size (left - p.value) (map raised xs)
        ≡ read_parts n p.size (left - p.value) xs)
        → and_then o (λ p. cond (ltb p.size above && leb p.value left)
        (cond (nat_eq (length (drop p.length (map raised bytes))) 0) (Some p.value)
        (cond p.last None
        (added p.value
        (read_parts n p.size (left - p.value)
        (drop (link_length (drop p.length (map raised bytes)))
        (drop p.length (map raised bytes)))))))
        None)
        ≡ and_then o (λ p. cond (ltb p.size above && leb p.value left)
        (cond (nat_eq (length (drop p.length bytes)) 0) (Some p.value)
        (cond p.last None
        (added p.value
        (read_parts n p.size (left - p.value)
        (drop (link_length (drop p.length bytes)) (drop p.length bytes))))))
        None)
    by None h = refl
    by (Some p) h =
        let behind = drop p.length bytes in
        let d : drop p.length (map raised bytes) ≡ map raised behind = drop_raised p.length bytes in
        let k = link_length behind in
        let t : read_parts n p.size (left - p.value) (drop k (map raised behind))
        ≡ read_parts n p.size (left - p.value) (drop k behind) =
        ap (read_parts n p.size (left - p.value)) (drop_raised k behind) ∙ h p (drop k behind) in
        rw (d, length_raised behind, link_raised behind, t) refl

-- ---- what is read are parts

record Sum (above left : ℕ) (bytes : List ℕ) (value : ℕ) : Type 0 where
  pub head : Part
  pub more : List Part
  pub are : ArePartsOf (head ∷ more) bytes
  pub below : head.size < above
  pub sum : sum_of (head ∷ more) ≡ value
  pub most : value ≤ left

added_some : (n v : ℕ) (o : Option ℕ) → added n o ≡ Some v → (j : ℕ) × (o ≡ Some j) × (n + j ≡ v)
added_some n v None e = absurd cc
added_some n v (Some j) e = (j, refl, cc)

one_part : (above left value : ℕ) (bytes : List ℕ) (p : Seen) (q : Part) → PartHere bytes p q
    → p.size < above → p.value ≤ left → length (drop p.length bytes) ≡ 0 → p.value ≡ value
    → Sum above left bytes value
one_part above left value bytes p q h size most none e =
    let all : take p.length bytes ≡ bytes =
    take_all p.length bytes (omega (arith, none, length-drop p.length bytes)) in
    record {
      head = q;
      more = [];
      are = (h.is, sym all ∙ h.text);
      below = omega (arith, h.size, size);
      sum = omega (arith, h.value, e);
      most = omega (arith, most, e);
    }

further_parts : (above left value : ℕ) (bytes : List ℕ) (p : Seen) (q : Part) (j : ℕ)
    → PartHere bytes p q → p.size < above → p.value ≤ left → p.last ≡ false → p.value + j ≡ value
    → Sum p.size (left - p.value) (drop (link_length (drop p.length bytes)) (drop p.length bytes)) j
    → Sum above left bytes value
further_parts above left value bytes p q j h size most last e s =
    let behind = drop p.length bytes in
    let k = link_length behind in
    let text : bytes ≡ part_text q ++ (take k behind ++ drop k behind) =
    split_at p.length bytes ∙ ap (λ (t : List ℕ). t ++ behind) h.text
    ∙ ap (λ (t : List ℕ). part_text q ++ t) (split_at k behind) in
    record {
      head = q;
      more = s.head ∷ s.more;
      are = (
        h.is,
        h.plain last,
        omega (arith, s.below, h.size),
        (take k behind, drop k behind, link_is behind, text, s.are),
      );
      below = omega (arith, h.size, size);
      sum = omega (arith, h.value, s.sum, e);
      most = omega (arith, s.most, most, e);
    }

parts_sum : (n above left : ℕ) (bytes : List ℕ) (value : ℕ) → IsRaised bytes
    → read_parts n above left bytes ≡ Some value → Sum above left bytes value
unfolding read_parts
parts_sum zero above left bytes value r e = absurd cc
parts_sum (suc n) above left bytes value r e =
    by (part_at bytes) refl e (λ p xs j rs h. parts_sum n p.size (left - p.value) xs j rs h)
  where
    tested : (p : Seen) (u v w l : Bool) → part_at bytes ≡ Some p → ltb p.size above ≡ u
        → leb p.value left ≡ v → nat_eq (length (drop p.length bytes)) 0 ≡ w → p.last ≡ l
        → cond (u && v)
        (cond w (Some p.value)
        (cond l None
        (added p.value
        (read_parts n p.size (left - p.value)
        (drop (link_length (drop p.length bytes)) (drop p.length bytes)))))) None ≡ Some value
        → ((xs : List ℕ) (j : ℕ) → IsRaised xs → read_parts n p.size (left - p.value) xs ≡ Some j
        → Sum p.size (left - p.value) xs j)
        → Sum above left bytes value
    tested p true true true l at e1 e2 e3 e4 h go =
        let q = part_some bytes p r at in
        one_part above left value bytes p q.0 q.1 (ltb-true p.size above e1)
        (leb-true p.value left e2) (eqb-true (length (drop p.length bytes)) 0 e3) cc
    tested p true true false true at e1 e2 e3 e4 h go = absurd cc
    tested p true true false false at e1 e2 e3 e4 h go =
        let q = part_some bytes p r at in
        let behind = drop p.length bytes in
        let k = link_length behind in
        let first : IsRaised behind = sym (drop_raised p.length bytes) ∙ ap (drop p.length) r in
        let further : IsRaised (drop k behind) = sym (drop_raised k behind) ∙ ap (drop k) first in
        let j = added_some p.value value (read_parts n p.size (left - p.value) (drop k behind)) h in
        further_parts above left value bytes p q.0 j.0 q.1 (ltb-true p.size above e1)
        (leb-true p.value left e2) e4 j.2 (go (drop k behind) j.0 further j.1)
    tested p true false w l at e1 e2 e3 e4 h go = absurd cc
    tested p false v w l at e1 e2 e3 e4 h go = absurd cc

    by : (o : Option Seen) → part_at bytes ≡ o
        → and_then o (λ p. cond (ltb p.size above && leb p.value left)
        (cond (nat_eq (length (drop p.length bytes)) 0) (Some p.value)
        (cond p.last None
        (added p.value
        (read_parts n p.size (left - p.value)
        (drop (link_length (drop p.length bytes)) (drop p.length bytes))))))
        None) ≡ Some value
        → ((p : Seen) (xs : List ℕ) (j : ℕ) → IsRaised xs
        → read_parts n p.size (left - p.value) xs ≡ Some j → Sum p.size (left - p.value) xs j)
        → Sum above left bytes value
    by None at h go = absurd cc
    by (Some p) at h go =
        tested p (ltb p.size above) (leb p.value left)
        (nat_eq (length (drop p.length bytes)) 0) p.last at refl refl refl refl h (go p)

-- ---- parts are read

first_found : (n above left : ℕ) (bytes : List ℕ) (q : Part) (rest : List ℕ) → IsPart q
    → bytes ≡ part_text q ++ rest → begins is_alphabetic rest ≡ false → q.size < above
    → milliseconds q ≤ left → left ≤ 2 ^ 63
    → read_parts (suc n) above left bytes
    ≡ cond (nat_eq (length rest) 0) (Some (milliseconds q))
    (cond (ltb 0 (length (dotted q.fraction))) None
    (added (milliseconds q)
    (read_parts n q.size (left - milliseconds q) (drop (link_length rest) rest))))
unfolding read_parts
first_found n above left bytes q rest is e stops below sum most =
    let at = part_found q bytes rest is e stops (small_part q is (omega (arith, sum, most))) in
    let size : ltb q.size above ≡ true = lt-ltb q.size above below in
    let value : leb (milliseconds q) left ≡ true = le-leb (milliseconds q) left sum in
    let count : length q.whole + length (dotted q.fraction) + length q.unit ≡ length (part_text q) =
    sym (part_length q) in
    let behind : drop (length (part_text q)) bytes ≡ rest =
    left_over bytes (part_text q) rest (length (part_text q)) e refl in
    rw (at, size, value, count, behind) refl

parts_found : (n above left : ℕ) (bytes : List ℕ) (q : Part) (ps : List Part) → length bytes < n
    → ArePartsOf (q ∷ ps) bytes → q.size < above → sum_of (q ∷ ps) ≤ left → left ≤ 2 ^ 63
    → read_parts n above left bytes ≡ Some (sum_of (q ∷ ps))
parts_found zero above left bytes q ps lt are below sum most = absurd (omega (arith, lt))
parts_found (suc n) above left bytes q [] lt (is, text_is) below sum most =
    first_found n above left bytes q [] is (text_is ∙ sym (append-nil (part_text q))) refl below
    (omega (arith, sum)) most
    ∙ ap (λ (x : ℕ). Some x) (let e : milliseconds q ≡ milliseconds q + 0 = omega arith in e)
parts_found (suc n) above left bytes q (q2 ∷ ps) lt
    (is, plain, falls, (link, further, there, text_is, more)) below sum most =
    let first : begins is_digit further ≡ true =
    ap (begins is_digit) (sym (append-nil further)) ∙ parts_first q2 ps further [] more in
    let l = linked link further there first in
    let here =
    first_found n above left bytes q (link ++ further) is text_is l.stops below
    (omega (arith, sum)) most in
    let some : 0 < length further = begun further first in
    let goes : nat_eq (length (link ++ further)) 0 ≡ false =
    false_by (nat_eq (length (link ++ further)) 0)
    (λ h. absurd
    (omega (
      arith,
      eqb-true (length (link ++ further)) 0 h,
      length-append link further,
      some,
    ))) in
    let none : ltb 0 (length (dotted q.fraction)) ≡ false =
    ap (λ (ds : List ℕ). ltb 0 (length (dotted ds))) plain in
    let rest_is : drop (link_length (link ++ further)) (link ++ further) ≡ further =
    ap (λ (k : ℕ). drop k (link ++ further)) l.count ∙ drop_front link further in
    let shorter : length further < n =
    omega (
      arith,
      lt,
      ap length text_is,
      length-append (part_text q) (link ++ further),
      length-append link further,
      part_length q,
      is.some,
    ) in
    let tail =
    parts_found n q.size (left - milliseconds q) further q2 ps shorter more falls
    (omega (arith, sum)) (omega (arith, most)) in
    let tail_is : read_parts n q.size (left - milliseconds q)
    (drop (link_length (link ++ further)) (link ++ further)) ≡ Some (sum_of (q2 ∷ ps)) =
    ap (read_parts n q.size (left - milliseconds q)) rest_is ∙ tail in
    here ∙ rw (goes, none, tail_is) refl
  where
    begun : (xs : List ℕ) → begins is_digit xs ≡ true → 0 < length xs
    begun [] e = absurd cc
    begun (x ∷ xs) e = omega arith

-- ---- times

abbrev time_words : List (List ℕ)
time_words = codes "T" ∷ codes "TIME" ∷ []

head_there : (w : List ℕ) (u v : Bool) → bytes_eq w (codes "T") ≡ u → bytes_eq w (codes "TIME") ≡ v
    → (u || (v || false)) ≡ true
    → Contains (codes "T#" ∷ codes "TIME#" ∷ []) (w ++ 35 ∷ [])
head_there w true v e1 e2 h =
    (0, omega arith, ap (λ (t : List ℕ). t ++ 35 ∷ []) (sym (same w (codes "T") e1)))
head_there w false true e1 e2 h =
    (1, omega arith, ap (λ (t : List ℕ). t ++ 35 ∷ []) (sym (same w (codes "TIME") e2)))
head_there w false false e1 e2 h = absurd cc

whole_sum : (left : ℕ) (bytes : List ℕ) (size : ℕ) → whole_parts left bytes ≡ Some size
    → Sum above_units left (map raised bytes) size
whole_sum left bytes size e =
    parts_sum (suc (length bytes)) above_units left (map raised bytes) size (all_twice bytes)
    (raised_parts (suc (length bytes)) above_units left bytes ∙ e)

made : (text word parts : List ℕ) (minus : Bool) (size : ℕ) → is_word_of time_words word ≡ true
    → text ≡ word ++ 35 ∷ (sign_of minus ++ parts) → map raised (sign_of minus) ≡ sign_of minus
    → Sum above_units (greatest minus) (map raised parts) size
    → IsTimeValue text (with_sign minus size)
made text word parts minus size is text_is stays s = record {
  time = record {
    head = map raised word ++ 35 ∷ [];
    negative = minus;
    body = map raised parts;
    parts = s.head ∷ s.more;
    is_head =
        head_there (map raised word) (bytes_eq (map raised word) (codes "T"))
        (bytes_eq (map raised word) (codes "TIME")) refl refl is;
    text_is =
        ap (map raised) text_is ∙ raised_append word (35 ∷ (sign_of minus ++ parts))
        ∙ ap (λ (t : List ℕ). map raised word ++ 35 ∷ t)
        (raised_append (sign_of minus) parts ∙ ap (λ (t : List ℕ). t ++ map raised parts) stays)
        ∙ sym (append_assoc_ (map raised word) (35 ∷ []) (sign_of minus ++ map raised parts));
    are_parts = s.are;
    in_range = omega (arith, s.sum, s.most);
  };
  value_is = ap (with_sign minus) (sym s.sum);
}

negative_some : (o : Option ℕ) (z : ℤ) → as_negative o ≡ Some z
    → (n : ℕ) × (o ≡ Some n) × (neg_ℤ (pos n) ≡ z)
negative_some None z e = absurd cc
negative_some (Some n) z e = (n, refl, cc)

positive_some : (o : Option ℕ) (z : ℤ) → as_positive o ≡ Some z
    → (n : ℕ) × (o ≡ Some n) × (pos n ≡ z)
positive_some None z e = absurd cc
positive_some (Some n) z e = (n, refl, cc)

pub time_some : (text : List ℕ) (z : ℤ) → read_time text ≡ Some z → IsTimeValue text z
unfolding read_time
time_some text z e = by (is_word_of time_words word) refl e
  where
    word : List ℕ
    word = take (word_length text) text

    rest : List ℕ
    rest = drop (word_length text) text

    whole : (t : List ℕ) → rest ≡ t → text ≡ word ++ t
    whole t h = split_at (word_length text) text ∙ ap (λ (x : List ℕ). word ++ x) h

    marked : (u v : Bool) → is_word_of time_words word ≡ true
        → bytes_eq (take 2 rest) (codes "#-") ≡ u → hash_follows rest ≡ v
        → cond u (as_negative (whole_parts (2 ^ 63) (drop 2 rest)))
        (cond v (as_positive (whole_parts (2 ^ 63 - 1) (drop 1 rest))) None) ≡ Some z
        → IsTimeValue text z
    marked true v is e1 e2 h =
        let n = negative_some (whole_parts (2 ^ 63) (drop 2 rest)) z h in
        let at : rest ≡ 35 ∷ 45 ∷ drop 2 rest =
        split_at 2 rest
        ∙ ap (λ (t : List ℕ). t ++ drop 2 rest) (same (take 2 rest) (codes "#-") e1) in
        subst (λ (x : ℤ). IsTimeValue text x) n.2
        (made text word (drop 2 rest) true n.0 is (whole (35 ∷ 45 ∷ drop 2 rest) at) refl
        (whole_sum (2 ^ 63) (drop 2 rest) n.0 n.1))
    marked false true is e1 e2 h =
        let n = positive_some (whole_parts (2 ^ 63 - 1) (drop 1 rest)) z h in
        let f = hash_first rest e2 in
        let at : rest ≡ 35 ∷ drop 1 rest = f.1 ∙ ap (λ (t : List ℕ). 35 ∷ drop 1 t) (sym f.1) in
        subst (λ (x : ℤ). IsTimeValue text x) n.2
        (made text word (drop 1 rest) false n.0 is (whole (35 ∷ drop 1 rest) at) refl
        (whole_sum (2 ^ 63 - 1) (drop 1 rest) n.0 n.1))
    marked false false is e1 e2 h = absurd cc

    by : (v : Bool) → is_word_of time_words word ≡ v → cond v (behind_word rest) None ≡ Some z
        → IsTimeValue text z
    by true is h = marked (bytes_eq (take 2 rest) (codes "#-")) (hash_follows rest) is refl refl h
    by false is h = absurd cc

whole_found : (left : ℕ) (bytes body : List ℕ) (ps : List Part) → map raised bytes ≡ body
    → ArePartsOf ps body → sum_of ps ≤ left → left ≤ 2 ^ 63
    → whole_parts left bytes ≡ Some (sum_of ps)
whole_found left bytes body [] e are sum most = absurd are
whole_found left bytes body (q ∷ ps) e are sum most =
    let shorter : length body < suc (length bytes) =
    omega (arith, ap length (sym e), length_raised bytes) in
    sym (raised_parts (suc (length bytes)) above_units left bytes)
    ∙ ap (read_parts (suc (length bytes)) above_units left) e
    ∙ parts_found (suc (length bytes)) above_units left body q ps shorter are
    (first_unit q ps body are) sum most
  where
    first_unit : (q : Part) (ps : List Part) (body : List ℕ) → ArePartsOf (q ∷ ps) body
        → q.size < above_units
    first_unit q [] body (is, e) = (unit_is q.unit q.size is.unit).most
    first_unit q (q2 ∷ ps) body (is, plain, falls, more) = (unit_is q.unit q.size is.unit).most

digits_first : (ps : List Part) (body : List ℕ) → ArePartsOf ps body → begins is_digit body ≡ true
digits_first [] body are = absurd are
digits_first (q ∷ ps) body are =
    ap (begins is_digit) (sym (append-nil body)) ∙ parts_first q ps body [] are

no_minus : (rest body : List ℕ) → map raised rest ≡ body → begins is_digit body ≡ true
    → bytes_eq (take 2 (35 ∷ rest)) (codes "#-") ≡ false
no_minus [] body e d = refl
no_minus (b ∷ rest) body e d =
    let digit : is_digit b ≡ true = sym (raised_digit b) ∙ ap (begins is_digit) e ∙ d in
    false_by (bytes_eq (35 ∷ b ∷ []) (codes "#-"))
    (λ h. no_digit
    (cons_first b 45 [] []
    (cons_rest 35 35 (b ∷ []) (45 ∷ []) (same (35 ∷ b ∷ []) (codes "#-") h))) digit)
  where
    no_digit : b ≡ 45 → is_digit b ≡ true → ⊥
    no_digit is h = let f : false ≡ true = ap is_digit (sym is) ∙ h in cc

behind_found : (rest body : List ℕ) (minus : Bool) (ps : List Part)
    → map raised rest ≡ sign_of minus ++ body → ArePartsOf ps body → sum_of ps ≤ greatest minus
    → behind_word (35 ∷ rest) ≡ Some (with_sign minus (sum_of ps))
behind_found [] body true ps e are sum = absurd cc
behind_found (b ∷ rest) body true ps e are sum =
    let is : b ≡ 45 = raised_same b 45 (cons_first (raised b) 45 (map raised rest) body e) refl in
    let found =
    whole_found (2 ^ 63) rest body ps (cons_rest (raised b) 45 (map raised rest) body e) are sum
    (omega arith) in
    rw (is, found) refl
behind_found rest body false ps e are sum =
    let found = whole_found (2 ^ 63 - 1) rest body ps e are sum (omega arith) in
    rw (no_minus rest body e (digits_first ps body are), found) refl

word_found : (text u rest_ : List ℕ) (o : Option ℤ) → map raised text ≡ u ++ 35 ∷ rest_
    → list_all is_capital u ≡ true → list_any (bytes_eq u) time_words ≡ true
    → ((rest : List ℕ) → map raised rest ≡ rest_ → behind_word (35 ∷ rest) ≡ o) → read_time text ≡ o
unfolding read_time
word_found text u rest_ o e letters is found =
    let s = raised_split text u rest_ e in
    let h = hashed text s.word s.rest s.text_is
    (all_letters s.word (capitals s.word u s.word_is letters)) in
    let word : is_word_of time_words (take (word_length text) text) ≡ true =
    ap (is_word_of time_words) h.run
    ∙ ap (λ (w : List ℕ). list_any (bytes_eq w) time_words) s.word_is ∙ is in
    rw (word, h.behind) (found s.rest s.rest_is)

pub time_found : (text : List ℕ) (z : ℤ) → IsTimeValue text z → read_time text ≡ Some z
time_found text z v = by (one_of_two (codes "T#") (codes "TIME#") v.time.head v.time.is_head)
  where
    behind : (rest : List ℕ) → map raised rest ≡ sign_of v.time.negative ++ v.time.body
        → behind_word (35 ∷ rest) ≡ Some z
    behind rest e =
        behind_found rest v.time.body v.time.negative v.time.parts e v.time.are_parts
        v.time.in_range ∙ ap (λ (x : ℤ). Some x) (sym v.value_is)

    by : (codes "T#" ≡ v.time.head) ⊎ (codes "TIME#" ≡ v.time.head) → read_time text ≡ Some z
    by (inl e) =
        word_found text (codes "T") (sign_of v.time.negative ++ v.time.body) (Some z)
        (v.time.text_is
        ∙ ap (λ (h : List ℕ). h ++ (sign_of v.time.negative ++ v.time.body)) (sym e)) refl refl
        behind
    by (inr e) =
        word_found text (codes "TIME") (sign_of v.time.negative ++ v.time.body) (Some z)
        (v.time.text_is
        ∙ ap (λ (h : List ℕ). h ++ (sign_of v.time.negative ++ v.time.body)) (sym e)) refl refl
        behind

-- ---- each time has a value

pub some_time : (text : List ℕ) → IsTime text → (z : ℤ) × IsTimeValue text z
some_time text t = (with_sign t.negative (sum_of t.parts), record { time = t; value_is = refl })

pub one_time : (text : List ℕ) (v w : ℤ) → IsTimeValue text v → IsTimeValue text w → v ≡ w
one_time text v w x y = let e : Some v ≡ Some w =
    sym (time_found text v x) ∙ time_found text w y in cc
