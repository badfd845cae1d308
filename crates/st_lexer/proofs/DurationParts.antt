-- The parts of a time: what is read is a list of parts, each list is read, and none is longer.
use Rattle.std.proofs.Common.{◌≡◌, ℕ, zero, suc, ◌+◌, ◌-◌, ◌*◌, ◌/◌, ◌%◌, ◌^◌, ◌<◌, ◌≤◌, Bool, true, false, cond, ◌&&◌, ◌⊎◌, inl, inr, ltb, leb, List, [], ◌∷◌, ◌++◌, length, take, drop, codes, Option, Some, None, refl, sym, ap, subst, ◌∙◌, arith}
use Rattle.std.specs.Prelude.{nat_eq}
use Rattle.std.specs.List.{list_all, Contains}
use Rattle.std.proofs.Math.Nat.{mul-le-mul_left}
use Rattle.std.proofs.lemmas.Bool.{ltb-true, lt-ltb, leb-true, le-leb}
use Rattle.std.proofs.lemmas.Bool.Decides.{nat_tests}
use Rattle.std.proofs.lemmas.List.{length-append, length-drop}
use Rattle.st_lexer.specs.declared.times.Part.{Part as Seen}
use Rattle.st_lexer.specs.Bytes.{is_alphabetic, is_digit, in_word, begins, value_in}
use Rattle.st_lexer.specs.Times.{Part, dotted, part_text, milliseconds, IsPart, ArePartsOf, sum_of}
use Rattle.st_lexer.specs.Front.{part_at, parts_at, link_length, longer, letters_length, whole_length}
use Rattle.st_lexer.proofs.Tests.{both, clash}
use Rattle.st_lexer.proofs.Runs.{run_exact, drop_front, append_assoc_}
use Rattle.st_lexer.proofs.Leads.{one_of_two}
use Rattle.st_lexer.proofs.Numerals.{longer_some}
use Rattle.st_lexer.proofs.Raising.{drop_raised}
use Rattle.st_lexer.proofs.TimeParts.{ten_pos}
use Rattle.st_lexer.proofs.Durations.{IsRaised, unit_is, front_of, part_length, part_found, read, part_bound, PartHere, part_some, take_add, drop_add}

-- ---- what a step reads

-- the part that is read first, and what follows it
pub record Step (n above left : ℕ) (bytes : List ℕ) (m : ℕ) : Type 0 where
  pub part : Seen
  pub is : part_at bytes ≡ Some part
  pub size : part.size < above
  pub value : part.value ≤ left
  pub further : ((begins in_word (drop part.length bytes) ≡ false) × (m ≡ part.length))
      ⊎ ((begins in_word (drop part.length bytes) ≡ true) × (part.last ≡ false)
      × ((j : ℕ) × (parts_at n part.size (left - part.value) (drop (part.length + link_length (drop part.length bytes)) bytes) ≡ Some j) × (m ≡ part.length + link_length (drop part.length bytes) + j)))

step_further : (n left : ℕ) (bytes : List ℕ) (p : Seen) (m : ℕ) (w l : Bool) → begins in_word (drop p.length bytes) ≡ w → p.last ≡ l
    → cond w (cond l None (longer (p.length + link_length (drop p.length bytes)) (parts_at n p.size (left - p.value) (drop (p.length + link_length (drop p.length bytes)) bytes)))) (Some p.length) ≡ Some m
    → ((begins in_word (drop p.length bytes) ≡ false) × (m ≡ p.length))
    ⊎ ((begins in_word (drop p.length bytes) ≡ true) × (p.last ≡ false)
    × ((j : ℕ) × (parts_at n p.size (left - p.value) (drop (p.length + link_length (drop p.length bytes)) bytes) ≡ Some j) × (m ≡ p.length + link_length (drop p.length bytes) + j)))
step_further n left bytes p m true true e1 e2 h = absurd cc
step_further n left bytes p m true false e1 e2 h =
    let l = longer_some (p.length + link_length (drop p.length bytes)) m (parts_at n p.size (left - p.value) (drop (p.length + link_length (drop p.length bytes)) bytes)) h in
    inr (e1, e2, (l.0, l.1, sym l.2))
step_further n left bytes p m false l e1 e2 h = inl (e1, cc)

step_tests : (n above left : ℕ) (bytes : List ℕ) (m : ℕ) (p : Seen) (u v : Bool) → ltb p.size above ≡ u → leb p.value left ≡ v → part_at bytes ≡ Some p
    → cond (u && v) (cond (begins in_word (drop p.length bytes)) (cond p.last None (longer (p.length + link_length (drop p.length bytes)) (parts_at n p.size (left - p.value) (drop (p.length + link_length (drop p.length bytes)) bytes)))) (Some p.length)) None ≡ Some m → Step n above left bytes m
step_tests n above left bytes m p true true e1 e2 is h =
    record { part = p; is = is; size = ltb-true p.size above e1; value = leb-true p.value left e2; further = step_further n left bytes p m (begins in_word (drop p.length bytes)) p.last refl refl h }
step_tests n above left bytes m p true false e1 e2 is h = absurd cc
step_tests n above left bytes m p false v e1 e2 is h = absurd cc

pub step : (n above left : ℕ) (bytes : List ℕ) (m : ℕ) → parts_at (suc n) above left bytes ≡ Some m → Step n above left bytes m
unfolding parts_at
step n above left bytes m e = by (part_at bytes) refl
  where
    by : (o : Option Seen) → part_at bytes ≡ o → Step n above left bytes m
    by None is = let f : None ≡ Some m = rw is at e in absurd cc
    by (Some p) is = step_tests n above left bytes m p (ltb p.size above) (leb p.value left) refl refl is (rw is at e)

-- ---- soundness

pub record Parts (above left : ℕ) (bytes : List ℕ) (m : ℕ) : Type 0 where
  pub head : Part
  pub more : List Part
  pub are : ArePartsOf (head ∷ more) (take m bytes)
  pub below : head.size < above
  pub sum : sum_of (head ∷ more) ≤ left
  pub within : m ≤ length bytes
  pub stops : begins in_word (drop m bytes) ≡ false

pub link_is : (bytes : List ℕ) → Contains ([] ∷ codes "_" ∷ []) (take (link_length bytes) bytes)
link_is [] = (0, omega arith, refl)
link_is (b ∷ bytes) = by (nat_eq 95 b) refl
  where
    by : (v : Bool) → nat_eq 95 b ≡ v → Contains ([] ∷ codes "_" ∷ []) (take (cond v 1 0) (b ∷ bytes))
    by true e = let is : 95 ≡ b = grind (arith, nat_tests) in (1, omega arith, ap (λ (x : ℕ). x ∷ []) is)
    by false e = (0, omega arith, refl)

link_within : (bytes : List ℕ) → link_length bytes ≤ length bytes
link_within [] = omega arith
link_within (b ∷ bytes) = by (nat_eq 95 b)
  where
    by : (v : Bool) → cond v 1 0 ≤ length (b ∷ bytes)
    by true = omega arith
    by false = omega arith

pub parts_some : (n above left : ℕ) (bytes : List ℕ) (m : ℕ) → IsRaised bytes → parts_at n above left bytes ≡ Some m → Parts above left bytes m
unfolding parts_at
parts_some zero above left bytes m r e = absurd cc
parts_some (suc n) above left bytes m r e =
    let s = step n above left bytes m e in
    let here = part_some bytes s.part r s.is in
    by s here.0 here.1 s.further (λ k j h. parts_some n s.part.size (left - s.part.value) (drop k bytes) j (sym (drop_raised k bytes) ∙ ap (drop k) r) h)
  where
    by : (s : Step n above left bytes m) (q : Part) → PartHere bytes s.part q
        → ((begins in_word (drop s.part.length bytes) ≡ false) × (m ≡ s.part.length))
        ⊎ ((begins in_word (drop s.part.length bytes) ≡ true) × (s.part.last ≡ false)
        × ((j : ℕ) × (parts_at n s.part.size (left - s.part.value) (drop (s.part.length + link_length (drop s.part.length bytes)) bytes) ≡ Some j) × (m ≡ s.part.length + link_length (drop s.part.length bytes) + j)))
        → ((k j : ℕ) → parts_at n s.part.size (left - s.part.value) (drop k bytes) ≡ Some j → Parts s.part.size (left - s.part.value) (drop k bytes) j)
        → Parts above left bytes m
    by s q h (inl (stops, m_is)) go = record {
      head = q;
      more = [];
      are = (h.is, ap (λ (k : ℕ). take k bytes) m_is ∙ h.text);
      below = omega (arith, h.size, s.size);
      sum = omega (arith, h.value, s.value);
      within = omega (arith, m_is, h.within);
      stops = ap (λ (k : ℕ). begins in_word (drop k bytes)) m_is ∙ stops;
    }
    by s q h (inr (goes, last, (j, rest_is, m_is))) go =
        let k = s.part.length + link_length (drop s.part.length bytes) in
        let t = go k j rest_is in
        let link = take (link_length (drop s.part.length bytes)) (drop s.part.length bytes) in
        let front : take k bytes ≡ part_text q ++ link = take_add s.part.length (link_length (drop s.part.length bytes)) bytes ∙ ap (λ (x : List ℕ). x ++ link) h.text in
        let text : take m bytes ≡ part_text q ++ (link ++ take j (drop k bytes)) =
        ap (λ (x : ℕ). take x bytes) m_is ∙ take_add k j bytes ∙ ap (λ (x : List ℕ). x ++ take j (drop k bytes)) front ∙ append_assoc_ (part_text q) link (take j (drop k bytes)) in
        record {
          head = q;
          more = t.head ∷ t.more;
          are = (h.is, h.plain last, omega (arith, t.below, h.size), (link, take j (drop k bytes), link_is (drop s.part.length bytes), text, t.are));
          below = omega (arith, h.size, s.size);
          sum = omega (arith, h.value, s.value, t.sum);
          within = omega (arith, m_is, h.within, t.within, link_within (drop s.part.length bytes), length-drop s.part.length bytes, length-drop k bytes);
          stops = ap (λ (x : ℕ). begins in_word (drop x bytes)) m_is ∙ ap (begins in_word) (drop_add k j bytes) ∙ t.stops;
        }

-- ---- a list of parts that stands there

-- the text of parts begins with a digit
first_digit : (xs rest : List ℕ) → 0 < length xs → list_all is_digit xs ≡ true → begins is_digit (xs ++ rest) ≡ true
first_digit [] rest lt h = absurd (omega (arith, lt))
first_digit (x ∷ xs) rest lt h = (both (is_digit x) (list_all is_digit xs) h).0

pub parts_first : (q : Part) (ps : List Part) (text rest : List ℕ) → ArePartsOf (q ∷ ps) text → begins is_digit (text ++ rest) ≡ true
parts_first q [] text rest (is, e) =
    ap (λ (t : List ℕ). begins is_digit (t ++ rest)) e ∙ ap (begins is_digit) (append_assoc_ q.whole (dotted q.fraction ++ q.unit) rest) ∙ first_digit q.whole ((dotted q.fraction ++ q.unit) ++ rest) is.some is.whole
parts_first q (q2 ∷ ps) text rest (is, plain, falls, (link, further, there, e, more)) =
    ap (λ (t : List ℕ). begins is_digit (t ++ rest)) (e ∙ append_assoc_ q.whole (dotted q.fraction ++ q.unit) (link ++ further))
    ∙ ap (begins is_digit) (append_assoc_ q.whole ((dotted q.fraction ++ q.unit) ++ (link ++ further)) rest) ∙ first_digit q.whole (((dotted q.fraction ++ q.unit) ++ (link ++ further)) ++ rest) is.some is.whole

digit_no_letter : (b : ℕ) → is_digit b ≡ true → is_alphabetic b ≡ false
digit_no_letter b e = grind (arith, nat_tests)

digit_no_line : (b : ℕ) → is_digit b ≡ true → nat_eq 95 b ≡ false
digit_no_line b e = grind (arith, nat_tests)

digit_in_word : (b : ℕ) → is_digit b ≡ true → in_word b ≡ true
digit_in_word b e = grind (arith, nat_tests)

word_no_letter : (bs : List ℕ) → begins in_word bs ≡ false → begins is_alphabetic bs ≡ false
word_no_letter [] e = refl
word_no_letter (b ∷ bs) e = no_word b e
  where
    no_word : (b : ℕ) → in_word b ≡ false → is_alphabetic b ≡ false
    no_word b h = grind (arith, nat_tests)

-- what stands behind a part that isn't the last: a link, and a digit
pub record Linked (link further : List ℕ) : Type 0 where
  pub stops : begins is_alphabetic (link ++ further) ≡ false
  pub goes : begins in_word (link ++ further) ≡ true
  pub count : link_length (link ++ further) ≡ length link

plain_link : (further : List ℕ) → begins is_digit further ≡ true → Linked [] further
plain_link [] e = absurd cc
plain_link (b ∷ bs) e = record { stops = digit_no_letter b e; goes = digit_in_word b e; count = rw (digit_no_line b e) refl }

pub linked : (link further : List ℕ) → Contains ([] ∷ codes "_" ∷ []) link → begins is_digit further ≡ true → Linked link further
linked link further h e = by (one_of_two [] (codes "_") link h)
  where
    by : ([] ≡ link) ⊎ (codes "_" ≡ link) → Linked link further
    by (inl is) = subst (λ (l : List ℕ). Linked l further) is (plain_link further e)
    by (inr is) = subst (λ (l : List ℕ). Linked l further) is (record { stops = refl; goes = refl; count = refl })

-- a part before no letter is read with its own length
pub part_exact : (q : Part) (bytes rest : List ℕ) (p : Seen) → IsPart q → bytes ≡ part_text q ++ rest → begins is_alphabetic rest ≡ false → part_at bytes ≡ Some p
    → (p.length ≡ length (part_text q)) × (p.last ≡ ltb 0 (length (dotted q.fraction)))
part_exact q bytes rest p is e stops at =
    let f = front_of q bytes rest is e in
    let u = unit_is q.unit q.size is.unit in
    let r = read bytes p at in
    let same_point : Some r.point ≡ Some (length (dotted q.fraction)) = sym r.fraction_is ∙ f.point in
    let point : r.point ≡ length (dotted q.fraction) = cc in
    let behind : drop (whole_length bytes + r.point) bytes ≡ q.unit ++ rest = ap (λ (k : ℕ). drop (whole_length bytes + k) bytes) point ∙ f.behind in
    let letters : letters_length (drop (whole_length bytes + r.point) bytes) ≡ length q.unit = ap letters_length behind ∙ run_exact is_alphabetic q.unit rest u.letters stops in
    let count : p.length ≡ whole_length bytes + r.point + letters_length (drop (whole_length bytes + r.point) bytes) = ap (λ (x : Seen). x.length) r.part_is in
    (omega (arith, part_length q, f.whole, point, letters, count), ap (λ (x : Seen). x.last) r.part_is ∙ ap (λ (k : ℕ). ltb 0 k) point)

longest_by : (n above left : ℕ) (bytes : List ℕ) (m : ℕ) (s : Step n above left bytes m) → s.part.length ≤ m
longest_by n above left bytes m s = by s.further
  where
    by : ((begins in_word (drop s.part.length bytes) ≡ false) × (m ≡ s.part.length))
        ⊎ ((begins in_word (drop s.part.length bytes) ≡ true) × (s.part.last ≡ false)
        × ((j : ℕ) × (parts_at n s.part.size (left - s.part.value) (drop (s.part.length + link_length (drop s.part.length bytes)) bytes) ≡ Some j) × (m ≡ s.part.length + link_length (drop s.part.length bytes) + j)))
        → s.part.length ≤ m
    by (inl (a, e)) = omega (arith, e)
    by (inr (a, b, (j, c, e))) = omega (arith, e)

-- what is left of bytes behind a front of that length
pub left_over : (bytes front rest : List ℕ) (n : ℕ) → bytes ≡ front ++ rest → n ≡ length front → drop n bytes ≡ rest
left_over bytes front rest n e len = ap (λ (k : ℕ). drop k bytes) len ∙ ap (drop (length front)) e ∙ drop_front front rest

pub parts_bound : (n above left : ℕ) (bytes : List ℕ) (m : ℕ) (text rest : List ℕ) (q : Part) (ps : List Part) → parts_at n above left bytes ≡ Some m → bytes ≡ text ++ rest → ArePartsOf (q ∷ ps) text → length text ≤ m
unfolding parts_at
parts_bound zero above left bytes m text rest q ps e at are = absurd cc
parts_bound (suc n) above left bytes m text rest q [] e at (is, text_is) =
    let s = step n above left bytes m e in
    let le = part_bound q bytes rest s.part is (at ∙ ap (λ (t : List ℕ). t ++ rest) text_is) s.is in
    omega (arith, le, longest_by n above left bytes m s, ap length text_is)
parts_bound (suc n) above left bytes m text rest q (q2 ∷ ps) e at (is, plain, falls, (link, further, there, text_is, more)) =
    let s = step n above left bytes m e in
    let first = parts_first q2 ps further rest more in
    let l = linked link (further ++ rest) there first in
    let whole : bytes ≡ part_text q ++ (link ++ (further ++ rest)) =
    at ∙ ap (λ (t : List ℕ). t ++ rest) text_is ∙ append_assoc_ (part_text q) (link ++ further) rest ∙ ap (λ (t : List ℕ). part_text q ++ t) (append_assoc_ link further rest) in
    let exact = part_exact q bytes (link ++ (further ++ rest)) s.part is whole l.stops s.is in
    let behind : drop s.part.length bytes ≡ link ++ (further ++ rest) = left_over bytes (part_text q) (link ++ (further ++ rest)) s.part.length whole exact.0 in
    let len : length text ≡ length (part_text q) + (length link + length further) = omega (arith, ap length text_is, length-append (part_text q) (link ++ further), length-append link further) in
    by s l behind exact.0 len whole s.further (λ j k h d. parts_bound n s.part.size (left - s.part.value) (drop k bytes) j further rest q2 ps h d more)
  where
    by : (s : Step n above left bytes m) → Linked link (further ++ rest) → drop s.part.length bytes ≡ link ++ (further ++ rest) → s.part.length ≡ length (part_text q) → length text ≡ length (part_text q) + (length link + length further)
        → bytes ≡ part_text q ++ (link ++ (further ++ rest))
        → ((begins in_word (drop s.part.length bytes) ≡ false) × (m ≡ s.part.length))
        ⊎ ((begins in_word (drop s.part.length bytes) ≡ true) × (s.part.last ≡ false)
        × ((j : ℕ) × (parts_at n s.part.size (left - s.part.value) (drop (s.part.length + link_length (drop s.part.length bytes)) bytes) ≡ Some j) × (m ≡ s.part.length + link_length (drop s.part.length bytes) + j)))
        → ((j k : ℕ) → parts_at n s.part.size (left - s.part.value) (drop k bytes) ≡ Some j → drop k bytes ≡ further ++ rest → length further ≤ j)
        → length text ≤ m
    by s l behind exact len whole (inl (stops, e)) go = absurd (clash (begins in_word (drop s.part.length bytes)) (ap (begins in_word) behind ∙ l.goes) stops)
    by s l behind exact len whole (inr (goes, last, (j, h, e))) go =
        let link_is : link_length (drop s.part.length bytes) ≡ length link = ap link_length behind ∙ l.count in
        let rest_is : drop (s.part.length + link_length (drop s.part.length bytes)) bytes ≡ further ++ rest =
        drop_add s.part.length (link_length (drop s.part.length bytes)) bytes ∙ ap (λ (k : ℕ). drop k (drop s.part.length bytes)) link_is ∙ ap (drop (length link)) behind ∙ drop_front link (further ++ rest) in
        let le = go j (s.part.length + link_length (drop s.part.length bytes)) h rest_is in
        omega (arith, le, len, exact, link_is, e)

-- ---- completeness

ten_most : (f : ℕ) → f ≤ 9 → 10 ^ f ≤ 1000000000
ten_most zero le = omega arith
ten_most (suc zero) le = omega arith
ten_most (suc (suc zero)) le = omega arith
ten_most (suc (suc (suc zero))) le = omega arith
ten_most (suc (suc (suc (suc zero)))) le = omega arith
ten_most (suc (suc (suc (suc (suc zero))))) le = omega arith
ten_most (suc (suc (suc (suc (suc (suc zero)))))) le = omega arith
ten_most (suc (suc (suc (suc (suc (suc (suc zero))))))) le = omega arith
ten_most (suc (suc (suc (suc (suc (suc (suc (suc zero)))))))) le = omega arith
ten_most (suc (suc (suc (suc (suc (suc (suc (suc (suc zero))))))))) le = omega arith
ten_most (suc (suc (suc (suc (suc (suc (suc (suc (suc (suc f)))))))))) le = absurd (omega (arith, le))

small_by : (v size d : ℕ) → 0 < d → d ≤ 1000000000 → 1 ≤ size → (v * size) / d ≤ 2 ^ 63 → v < 2 ^ 100
small_by v size d pos most least le =
    let x = v * size in
    let up : v * 1 ≤ v * size = mul-le-mul_left v least in
    let whole : d * (x / d) + x % d ≡ x = omega (arith, pos) in
    let rest : x % d < d = omega (arith, pos) in
    let a : d * (x / d) ≤ d * (2 ^ 63) = mul-le-mul_left d le in
    let b : (2 ^ 63) * d ≤ (2 ^ 63) * 1000000000 = mul-le-mul_left (2 ^ 63) most in
    omega (arith, up, whole, rest, a, b, most)

pub small_part : (q : Part) → IsPart q → milliseconds q ≤ 2 ^ 63 → value_in 10 (q.whole ++ q.fraction) < 2 ^ 100
small_part q is le = small_by (value_in 10 (q.whole ++ q.fraction)) q.size (10 ^ length q.fraction) (ten_pos (length q.fraction)) (ten_most (length q.fraction) is.short) (unit_is q.unit q.size is.unit).least le

-- a first part that is read, and what the rest then is
first_found : (n above left : ℕ) (bytes : List ℕ) (q : Part) (rest : List ℕ) → IsPart q → bytes ≡ part_text q ++ rest → begins is_alphabetic rest ≡ false → q.size < above → milliseconds q ≤ left → left ≤ 2 ^ 63
    → parts_at (suc n) above left bytes
    ≡ cond (begins in_word rest) (cond (ltb 0 (length (dotted q.fraction))) None (longer (length (part_text q) + link_length rest) (parts_at n q.size (left - milliseconds q) (drop (length (part_text q) + link_length rest) bytes)))) (Some (length (part_text q)))
unfolding parts_at
first_found n above left bytes q rest is e stops below sum most =
    let at = part_found q bytes rest is e stops (small_part q is (omega (arith, sum, most))) in
    let size : ltb q.size above ≡ true = lt-ltb q.size above below in
    let value : leb (milliseconds q) left ≡ true = le-leb (milliseconds q) left sum in
    let count : length q.whole + length (dotted q.fraction) + length q.unit ≡ length (part_text q) = sym (part_length q) in
    let behind : drop (length (part_text q)) bytes ≡ rest = left_over bytes (part_text q) rest (length (part_text q)) e refl in
    rw (at, size, value, count, behind) refl

pub parts_found : (n above left : ℕ) (bytes text rest : List ℕ) (q : Part) (ps : List Part) → length bytes < n → bytes ≡ text ++ rest → ArePartsOf (q ∷ ps) text → begins in_word rest ≡ false
    → q.size < above → sum_of (q ∷ ps) ≤ left → left ≤ 2 ^ 63 → parts_at n above left bytes ≡ Some (length text)
parts_found zero above left bytes text rest q ps lt at are stops below sum most = absurd (omega (arith, lt))
parts_found (suc n) above left bytes text rest q [] lt at (is, text_is) stops below sum most =
    first_found n above left bytes q rest is (at ∙ ap (λ (t : List ℕ). t ++ rest) text_is) (word_no_letter rest stops) below (omega (arith, sum)) most
    ∙ ap (λ (v : Bool). cond v (cond (ltb 0 (length (dotted q.fraction))) None (longer (length (part_text q) + link_length rest) (parts_at n q.size (left - milliseconds q) (drop (length (part_text q) + link_length rest) bytes)))) (Some (length (part_text q)))) stops
    ∙ ap (λ (t : List ℕ). Some (length t)) (sym text_is)
parts_found (suc n) above left bytes text rest q (q2 ∷ ps) lt at (is, plain, falls, (link, further, there, text_is, more)) stops below sum most =
    let first = parts_first q2 ps further rest more in
    let l = linked link (further ++ rest) there first in
    let whole : bytes ≡ part_text q ++ (link ++ (further ++ rest)) =
    at ∙ ap (λ (t : List ℕ). t ++ rest) text_is ∙ append_assoc_ (part_text q) (link ++ further) rest ∙ ap (λ (t : List ℕ). part_text q ++ t) (append_assoc_ link further rest) in
    let here = first_found n above left bytes q (link ++ (further ++ rest)) is whole l.stops below (omega (arith, sum)) most in
    let behind : drop (length (part_text q)) bytes ≡ link ++ (further ++ rest) = left_over bytes (part_text q) (link ++ (further ++ rest)) (length (part_text q)) whole refl in
    let rest_is : drop (length (part_text q) + link_length (link ++ (further ++ rest))) bytes ≡ further ++ rest =
    drop_add (length (part_text q)) (link_length (link ++ (further ++ rest))) bytes ∙ ap (λ (k : ℕ). drop k (drop (length (part_text q)) bytes)) l.count ∙ ap (drop (length link)) behind ∙ drop_front link (further ++ rest) in
    let some : 0 < length (part_text q) = omega (arith, part_length q, is.some) in
    let shorter : length (further ++ rest) < n = omega (arith, ap length rest_is, length-drop (length (part_text q) + link_length (link ++ (further ++ rest))) bytes, some, lt, ap length whole, length-append (part_text q) (link ++ (further ++ rest))) in
    let tail = parts_found n q.size (left - milliseconds q) (further ++ rest) further rest q2 ps shorter refl more stops falls (omega (arith, sum)) (omega (arith, most)) in
    let none : ltb 0 (length (dotted q.fraction)) ≡ false = ap (λ (ds : List ℕ). ltb 0 (length (dotted ds))) plain in
    let len : length text ≡ length (part_text q) + (length link + length further) = omega (arith, ap length text_is, length-append (part_text q) (link ++ further), length-append link further) in
    let tail_is : parts_at n q.size (left - milliseconds q) (drop (length (part_text q) + link_length (link ++ (further ++ rest))) bytes) ≡ Some (length further) = ap (parts_at n q.size (left - milliseconds q)) rest_is ∙ tail in
    here ∙ by l.goes none tail_is (omega (arith, len, l.count))
  where
    by : begins in_word (link ++ (further ++ rest)) ≡ true → ltb 0 (length (dotted q.fraction)) ≡ false
        → parts_at n q.size (left - milliseconds q) (drop (length (part_text q) + link_length (link ++ (further ++ rest))) bytes) ≡ Some (length further)
        → length (part_text q) + link_length (link ++ (further ++ rest)) + length further ≡ length text
        → cond (begins in_word (link ++ (further ++ rest))) (cond (ltb 0 (length (dotted q.fraction))) None (longer (length (part_text q) + link_length (link ++ (further ++ rest))) (parts_at n q.size (left - milliseconds q) (drop (length (part_text q) + link_length (link ++ (further ++ rest))) bytes)))) (Some (length (part_text q)))
        ≡ Some (length text)
    by a b c d = rw (a, b, c) (ap (λ (k : ℕ). Some k) d)
