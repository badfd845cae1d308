-- What the functions find at the front stands there: words, typed numbers and times.
use Rattle.std.proofs.Common.{◌≡◌, ℕ, suc, ◌+◌, ◌<◌, ◌≤◌, Bool, true, false, cond, not, ◌&&◌, ◌||◌, List, [], ◌∷◌, ◌++◌, length, map, take, drop, codes, Option, Some, None, refl, sym, ap, subst, ◌∙◌, arith}
use Rattle.std.specs.Prelude.{nat_eq, bytes_eq}
use Rattle.std.specs.List.{list_all, list_any, prefix_len, Contains, zip}
use Rattle.std.proofs.lemmas.Bool.Decides.{nat_tests}
use Rattle.std.proofs.lemmas.List.{length-append}
use Rattle.iec_tables.specs.Letters.{raised}
use Rattle.iec_tables.specs.Words.{keyword_texts}
use Rattle.iec_tables.specs.declared.fault.FaultCode.TheVariants.{BadNumber, BadName}
use Rattle.token_grammar.specs.declared.token.TokenKind.{TokenKind}
use Rattle.token_grammar.specs.declared.token.TokenKind.TheVariants as kind
use Rattle.st_lexer.specs.declared.front.Found.TheVariants.{Token, Fault}
use Rattle.st_lexer.specs.declared.bytes.Lead.TheVariants as lead
use Rattle.st_lexer.specs.Bytes.{is_alphabetic, is_letter, is_digit, in_word, begins, is_spaced}
use Rattle.st_lexer.specs.Times.{IsTime, sign_of}
use Rattle.st_lexer.specs.Texts as texts
use Rattle.st_lexer.specs.Texts.{is_word_of, IsName, IsTyped, IsText, type_words, keyword_kinds, keywords}
use Rattle.st_lexer.specs.Faulty as faulty
use Rattle.st_lexer.specs.Faulty.{IsOpen, IsBadName, HasLiteral, BeginsLiteral, IsBadNumber, HasNoFault, EndsNumber}
use Rattle.st_lexer.specs.Cut.{IsLongest}
use Rattle.st_lexer.specs.Front.{found_in, longer, token_or, word_length, hash_follows, word_kind, kind_or_name, typed_at, time_at, word_at, truths, lead_of}
use Rattle.st_lexer.proofs.Tests.{same, both, clash, false_by}
use Rattle.st_lexer.proofs.Runs.{run_passes, run_stops, run_within, run_length, run_longest, front_is, split_at, append_assoc_, cons_first, cons_rest}
use Rattle.st_lexer.proofs.Leads.{lead_letter, letter_word, all_letters, word_among, type_letters, time_letters, truth_parts, TypedRest, time_split, TimeRest, keyword_plain}
use Rattle.st_lexer.proofs.LeadTexts as led
use Rattle.st_lexer.proofs.LeadTexts.{LetterText, may_open, open_lead}
use Rattle.st_lexer.proofs.Numerals.{hashed, take_suc, drop_suc, hash_first}
use Rattle.st_lexer.proofs.TypedNumbers.{TypedEnds, number_ends, truth_ends, typed_some, typed_bound, typed_found}
use Rattle.st_lexer.proofs.TimesAt.{time_some, time_bound, time_found}
use Rattle.st_lexer.proofs.Standing.{Stands, stands}
use Rattle.st_lexer.proofs.Tables.{found_there}
use Rattle.st_lexer.proofs.Right.{led_text}

abbrev time_words : List (List ℕ)
time_words = codes "T" ∷ codes "TIME" ∷ []

-- no word is the name of a type and that of a time
pub apart : (w : List ℕ) → is_word_of type_words w ≡ true → is_word_of time_words w ≡ true → ⊥
apart w t u =
    let r = word_among (λ x. not (list_any (bytes_eq x) time_words)) type_words w refl t in
    let there : list_any (bytes_eq r.word) time_words ≡ true = ap (λ (x : List ℕ). list_any (bytes_eq x) time_words) (sym r.is) ∙ u in
    not_both (list_any (bytes_eq r.word) time_words) there r.passes
  where
    not_both : (v : Bool) → v ≡ true → not v ≡ true → ⊥
    not_both true a b = cc
    not_both false a b = cc

pub letters_spaced : (w : List ℕ) → list_all is_alphabetic w ≡ true → is_spaced 95 w ≡ true
letters_spaced [] e = refl
letters_spaced (b ∷ []) e = rw (no_line b (both (is_alphabetic b) true e).0) refl
  where
    no_line : (b : ℕ) → is_alphabetic b ≡ true → nat_eq b 95 ≡ false
    no_line b h = grind (arith, nat_tests)
letters_spaced (b ∷ c ∷ w) e =
    let parts = both (is_alphabetic b) (list_all is_alphabetic (c ∷ w)) e in
    rw (no_line b parts.0) (letters_spaced (c ∷ w) parts.1)
  where
    no_line : (b : ℕ) → is_alphabetic b ≡ true → nat_eq b 95 ≡ false
    no_line b h = grind (arith, nat_tests)

-- a word that is in no row of the table is none of the reserved words
no_row : (kinds : List TokenKind) (words : List (List ℕ)) (key : List ℕ) → length kinds ≡ length words → found_in (zip kinds words) key ≡ None → list_any (bytes_eq key) words ≡ true → ⊥
no_row [] [] key n e h = cc
no_row [] (w ∷ words) key n e h = absurd (omega (arith, n))
no_row (k ∷ kinds) [] key n e h = cc
no_row (k ∷ kinds) (w ∷ words) key n e h = by (bytes_eq key w) refl e h (λ x y. no_row kinds words key (omega (arith, n)) x y)
  where
    by : (v : Bool) → bytes_eq key w ≡ v → cond v (Some k) (found_in (zip kinds words) key) ≡ None → (v || list_any (bytes_eq key) words) ≡ true
        → (found_in (zip kinds words) key ≡ None → list_any (bytes_eq key) words ≡ true → ⊥) → ⊥
    by true is x y go = cc
    by false is x y go = go x y

no_keyword : (key : List ℕ) → found_in keywords key ≡ None → list_any (bytes_eq key) keyword_texts ≡ true → ⊥
no_keyword key e h = no_row keyword_kinds keyword_texts key refl e h

-- a word and a `#` at the front
module _ (b : ℕ) (bs : List ℕ) (is_first : lead_of b ≡ lead.Letter) where
  bytes : List ℕ
  bytes = b ∷ bs

  pub the_word : List ℕ
  the_word = take (word_length (b ∷ bs)) (b ∷ bs)

  pub the_rest : List ℕ
  the_rest = drop (word_length (b ∷ bs)) (b ∷ bs)

  word_first : begins is_letter the_word ≡ true
  unfolding the_word
  word_first =
      let l = lead_letter b is_first in
      let w = letter_word b l in
      let n : word_length (b ∷ bs) ≡ 1 + prefix_len in_word bs = rw w refl in
      let up : 1 + prefix_len in_word bs ≡ suc (prefix_len in_word bs) = omega arith in
      ap (λ (k : ℕ). begins is_letter (take k (b ∷ bs))) (n ∙ up) ∙ l

  some : 0 < word_length (b ∷ bs)
  some = let w = letter_word b (lead_letter b is_first) in rw w (omega arith)

  -- a front that is a word and `#`
  same_word : (w r : List ℕ) → b ∷ bs ≡ w ++ 35 ∷ r → list_all in_word w ≡ true → (the_word ≡ w) × (the_rest ≡ 35 ∷ r) × (word_length (b ∷ bs) ≡ length w)
  unfolding the_word the_rest
  same_word w r e h = let f = hashed (b ∷ bs) w r e h in (f.run, f.behind, f.count)

  -- a bad name is the word
  bad_name : IsBadName (b ∷ bs) → is_spaced 95 the_word ≡ false
  unfolding the_word
  bad_name n = let f = front_is in_word (b ∷ bs) n.word n.rest n.bytes_are n.in_words n.ended in ap (is_spaced 95) f.run ∙ n.unspaced

  no_open : IsOpen (b ∷ bs) → ⊥
  no_open h = clash (may_open lead.Letter) (ap may_open (sym is_first) ∙ open_lead b bs h) refl

  -- the texts that stand there
  abbrev pub Only : Type 0
  Only = (k : TokenKind) (text rest : List ℕ) → b ∷ bs ≡ text ++ rest → LetterText k text → length text ≤ 0

  plain_most : (text rest : List ℕ) → b ∷ bs ≡ text ++ rest → list_all in_word text ≡ true → length text ≤ word_length (b ∷ bs)
  plain_most text rest at h = omega (arith, run_longest in_word text rest h, ap word_length at)

  -- a text that begins with a word and `#`
  hash_text : (w r text rest : List ℕ) → b ∷ bs ≡ text ++ rest → text ≡ w ++ 35 ∷ r → list_all in_word w ≡ true
      → (the_word ≡ w) × (the_rest ≡ 35 ∷ (r ++ rest)) × (word_length (b ∷ bs) ≡ length w) × (length text ≡ suc (word_length (b ∷ bs)) + length r)
  hash_text w r text rest at e h =
      let whole : b ∷ bs ≡ w ++ 35 ∷ (r ++ rest) = at ∙ ap (λ (t : List ℕ). t ++ rest) e ∙ append_assoc_ w (35 ∷ r) rest in
      let s = same_word w (r ++ rest) whole h in
      (s.0, s.1, s.2, omega (arith, ap length e, length-append w (35 ∷ r), s.2))

  -- the longest text, where behind the word nothing reads on
  longest_by : (n : ℕ) → word_length (b ∷ bs) ≤ n
      → ((w r rest : List ℕ) → the_word ≡ w → the_rest ≡ 35 ∷ (r ++ rest) → is_word_of type_words w ≡ true → TypedRest w r → suc (word_length (b ∷ bs)) + length r ≤ n)
      → ((w r rest : List ℕ) → the_word ≡ w → the_rest ≡ 35 ∷ (r ++ rest) → is_word_of time_words w ≡ true → TimeRest r → suc (word_length (b ∷ bs)) + length r ≤ n)
      → IsLongest n (b ∷ bs)
  longest_by n le typed time k text rest at is = by (led_text b bs lead.Letter k text rest is_first at is)
    where
      by : LetterText k text → length text ≤ n
      by (led.name k_is h) = let m = plain_most text rest at h.word in omega (arith, m, le)
      by (led.keyword h) = let m = plain_most text rest at (keyword_plain k text h).word in omega (arith, m, le)
      by (led.typed k_is s) =
          let t = hash_text s.word s.rest text rest at s.text_is (all_letters s.word (type_letters s.word s.is_type).all) in
          let m = typed s.word s.rest rest t.0 t.1 s.is_type s.after_hash in
          omega (arith, m, t.3)
      by (led.time k_is s) =
          let t = hash_text s.word s.rest text rest at s.text_is (all_letters s.word (time_letters s.word s.is_time).all) in
          let m = time s.word s.rest rest t.0 t.1 s.is_time s.after_hash in
          omega (arith, m, t.3)

  -- a literal there is a typed number or a time
  literal_by : {X : Type 0} → ((w r rest : List ℕ) → the_word ≡ w → the_rest ≡ 35 ∷ (r ++ rest) → is_word_of type_words w ≡ true → TypedEnds w r rest → X)
      → ((w r rest : List ℕ) → the_word ≡ w → the_rest ≡ 35 ∷ (r ++ rest) → is_word_of time_words w ≡ true → TimeRest r → begins in_word rest ≡ false → X)
      → (text rest : List ℕ) → b ∷ bs ≡ text ++ rest → HasLiteral text rest → X
  literal_by typed time text rest at (faulty.number is ends) = absurd (no_digit text rest at (led.number_first text is))
    where
      letter_digit : (x : ℕ) → is_letter x ≡ true → is_digit x ≡ true → ⊥
      letter_digit x l d = grind (arith, nat_tests)

      no_digit : (text rest : List ℕ) → b ∷ bs ≡ text ++ rest → begins is_digit text ≡ true → ⊥
      no_digit [] rest at d = cc
      no_digit (x ∷ text) rest at d = letter_digit x (ap is_letter (sym (cons_first b x bs (text ++ rest) at)) ∙ lead_letter b is_first) d
  literal_by typed time text rest at (faulty.typed word sign digits e is_type s n ends) =
      let t = hash_text word (sign ++ digits) text rest at e (all_letters word (type_letters word is_type).all) in
      typed word (sign ++ digits) rest t.0 t.1 is_type (number_ends (record { sign = sign; digits = digits; text_is = refl; is_sign = s; is_number = n; ends = ends }))
  literal_by typed time text rest at (faulty.truth h stops) =
      let s = truth_parts text h in
      let t = hash_text s.word s.rest text rest at s.text_is (all_letters s.word (type_letters s.word s.is_type).all) in
      typed s.word s.rest rest t.0 t.1 s.is_type (truth_ends s.is_bool s.is_truth stops)
  literal_by typed time text rest at (faulty.time h stops) =
      let s = time_split text h in
      let t = hash_text s.word s.rest text rest at s.text_is (all_letters s.word (time_letters s.word s.is_time).all) in
      time s.word s.rest rest t.0 t.1 s.is_time s.after_hash stops

  -- ---- behind the name of a type

  behind_is : (w r rest after : List ℕ) → the_rest ≡ 35 ∷ after → the_rest ≡ 35 ∷ (r ++ rest) → after ≡ r ++ rest
  behind_is w r rest after e1 e2 = cons_rest 35 35 after (r ++ rest) (sym e1 ∙ e2)

  text_at : (m : ℕ) (after : List ℕ) → the_rest ≡ 35 ∷ after → take (suc (word_length (b ∷ bs)) + m) (b ∷ bs) ≡ the_word ++ 35 ∷ take m after
  unfolding the_word the_rest
  text_at m after e = take_suc (word_length (b ∷ bs)) m (b ∷ bs) (take (word_length (b ∷ bs)) (b ∷ bs)) after refl e (sym (run_length in_word (b ∷ bs)))

  rest_at : (m : ℕ) (after : List ℕ) → the_rest ≡ 35 ∷ after → drop (suc (word_length (b ∷ bs)) + m) (b ∷ bs) ≡ drop m after
  unfolding the_rest
  rest_at m after e = drop_suc (word_length (b ∷ bs)) m (b ∷ bs) after e

  within_at : (m : ℕ) (after : List ℕ) → the_rest ≡ 35 ∷ after → m ≤ length after → suc (word_length (b ∷ bs)) + m ≤ length (b ∷ bs)
  unfolding the_rest
  within_at m after e le =
      let whole = split_at (word_length (b ∷ bs)) (b ∷ bs) in
      omega (arith, ap length whole, length-append (take (word_length (b ∷ bs)) (b ∷ bs)) (drop (word_length (b ∷ bs)) (b ∷ bs)), run_length in_word (b ∷ bs), ap length e, le)

  whole_is : (after : List ℕ) → the_rest ≡ 35 ∷ after → b ∷ bs ≡ the_word ++ 35 ∷ after
  unfolding the_word the_rest
  whole_is after e = split_at (word_length (b ∷ bs)) (b ∷ bs) ∙ ap (λ (t : List ℕ). take (word_length (b ∷ bs)) (b ∷ bs) ++ t) e

  -- where a literal stands, none of the faults is met
  sound_literal : (n : ℕ) → HasLiteral (take n (b ∷ bs)) (drop n (b ∷ bs)) → list_all is_alphabetic the_word ≡ true → HasNoFault (b ∷ bs)
  sound_literal n h letters = record {
    no_open_comment = no_open;
    no_bad_name = λ x. clash (is_spaced 95 the_word) (letters_spaced the_word letters) (bad_name x);
    no_bad_number = λ x. x.none (take n (b ∷ bs)) (drop n (b ∷ bs)) (split_at n (b ∷ bs)) h;
  }

  truth_join : (w r : List ℕ) → is_word_of (codes "BOOL" ∷ []) w ≡ true → is_word_of truths r ≡ true → is_word_of (codes "BOOL#TRUE" ∷ codes "BOOL#FALSE" ∷ []) (w ++ 35 ∷ r) ≡ true
  truth_join w r h t = by (bytes_eq (map raised r) (codes "TRUE")) (bytes_eq (map raised r) (codes "FALSE")) refl refl t
    where
      raised_append : (xs ys : List ℕ) → map raised (xs ++ ys) ≡ map raised xs ++ map raised ys
      raised_append [] ys = refl
      raised_append (x ∷ xs) ys = ap (λ (z : List ℕ). raised x ∷ z) (raised_append xs ys)

      bool_is : map raised w ≡ codes "BOOL"
      bool_is = one (bytes_eq (map raised w) (codes "BOOL")) refl h
        where
          one : (v : Bool) → bytes_eq (map raised w) (codes "BOOL") ≡ v → (v || false) ≡ true → map raised w ≡ codes "BOOL"
          one true e k = same (map raised w) (codes "BOOL") e
          one false e k = absurd cc

      joined : (v : List ℕ) → map raised r ≡ v → map raised (w ++ 35 ∷ r) ≡ codes "BOOL" ++ 35 ∷ v
      joined v e = raised_append w (35 ∷ r) ∙ ap (λ (t : List ℕ). t ++ 35 ∷ map raised r) bool_is ∙ ap (λ (t : List ℕ). codes "BOOL" ++ 35 ∷ t) e

      by : (u v : Bool) → bytes_eq (map raised r) (codes "TRUE") ≡ u → bytes_eq (map raised r) (codes "FALSE") ≡ v → (u || (v || false)) ≡ true
          → is_word_of (codes "BOOL#TRUE" ∷ codes "BOOL#FALSE" ∷ []) (w ++ 35 ∷ r) ≡ true
      by true v e1 e2 k = ap (λ (t : List ℕ). list_any (bytes_eq t) (codes "BOOL#TRUE" ∷ codes "BOOL#FALSE" ∷ [])) (joined (codes "TRUE") (same (map raised r) (codes "TRUE") e1))
      by false true e1 e2 k = ap (λ (t : List ℕ). list_any (bytes_eq t) (codes "BOOL#TRUE" ∷ codes "BOOL#FALSE" ∷ [])) (joined (codes "FALSE") (same (map raised r) (codes "FALSE") e2))
      by false false e1 e2 k = absurd cc

  typed_text : (w r rest : List ℕ) → is_word_of type_words w ≡ true → TypedEnds w r rest → IsTyped (w ++ 35 ∷ r)
  typed_text w r rest t (number_ends s) = texts.number w s.sign s.digits (ap (λ (x : List ℕ). w ++ 35 ∷ x) s.text_is) t s.is_sign s.is_number
  typed_text w r rest t (truth_ends h u stops) = texts.truth (truth_join w r h u)

  typed_literal : (w r rest : List ℕ) → is_word_of type_words w ≡ true → TypedEnds w r rest → HasLiteral (w ++ 35 ∷ r) rest
  typed_literal w r rest t (number_ends s) = faulty.typed w s.sign s.digits (ap (λ (x : List ℕ). w ++ 35 ∷ x) s.text_is) t s.is_sign s.is_number s.ends
  typed_literal w r rest t (truth_ends h u stops) = faulty.truth (truth_join w r h u) stops

  pub typed_right : (after : List ℕ) (o : Option ℕ) → the_rest ≡ 35 ∷ after → is_word_of type_words the_word ≡ true → typed_at the_word after ≡ o
      → Stands (b ∷ bs) (token_or BadNumber kind.TypedNumber (longer (suc (word_length (b ∷ bs))) o))
  typed_right after None e t at = record {
    begun = faulty.typed the_word after (whole_is after e) t;
    none = literal_by
        (λ w r rest same_w same_r is_type ends. typed_found w after r rest (behind_is w r rest after e same_r) ends (ap (λ (x : List ℕ). typed_at x after) (sym same_w) ∙ at))
        (λ w r rest same_w same_r is_time x stops. apart w (ap (is_word_of type_words) (sym same_w) ∙ t) is_time);
  }
  typed_right after (Some m) e t at =
      let n = suc (word_length (b ∷ bs)) in
      let s = typed_some the_word after m at in
      let text = text_at m after e in
      let rest = rest_at m after e in
      let literal : HasLiteral (take (n + m) (b ∷ bs)) (drop (n + m) (b ∷ bs)) =
      subst (λ (x : List ℕ). HasLiteral x (drop (n + m) (b ∷ bs))) (sym text) (subst (λ (x : List ℕ). HasLiteral (the_word ++ 35 ∷ take m after) x) (sym rest) (typed_literal the_word (take m after) (drop m after) t s.1)) in
      stands kind.TypedNumber (n + m) (b ∷ bs) (within_at m after e s.0) (omega arith)
      (texts.typed refl (subst IsTyped (sym text) (typed_text the_word (take m after) (drop m after) t s.1)))
      (longest_by (n + m) (omega arith)
      (λ w r more same_w same_r is_type x. let le = typed_bound w after r more m (ap (λ (y : List ℕ). typed_at y after) (sym same_w) ∙ at) (behind_is w r more after e same_r) x in omega (arith, le))
      (λ w r more same_w same_r is_time x. absurd (apart w (ap (is_word_of type_words) (sym same_w) ∙ t) is_time)))
      (sound_literal (n + m) literal (type_letters the_word t).all)

  -- ---- behind `T` or `TIME`

  time_text : (w r : List ℕ) → is_word_of time_words w ≡ true → TimeRest r → IsTime (w ++ 35 ∷ r)
  time_text w r t x = record {
    head = map raised w ++ 35 ∷ [];
    negative = x.negative;
    body = x.body;
    parts = x.parts;
    is_head = by (bytes_eq (map raised w) (codes "T")) (bytes_eq (map raised w) (codes "TIME")) refl refl t;
    text_is = raised_append w (35 ∷ r) ∙ ap (λ (y : List ℕ). map raised w ++ 35 ∷ y) x.rest_is ∙ sym (append_assoc_ (map raised w) (35 ∷ []) (sign_of x.negative ++ x.body));
    are_parts = x.are_parts;
    in_range = x.in_range;
  }
    where
      raised_append : (xs ys : List ℕ) → map raised (xs ++ ys) ≡ map raised xs ++ map raised ys
      raised_append [] ys = refl
      raised_append (x ∷ xs) ys = ap (λ (z : List ℕ). raised x ∷ z) (raised_append xs ys)

      by : (u v : Bool) → bytes_eq (map raised w) (codes "T") ≡ u → bytes_eq (map raised w) (codes "TIME") ≡ v → (u || (v || false)) ≡ true → Contains (codes "T#" ∷ codes "TIME#" ∷ []) (map raised w ++ 35 ∷ [])
      by true v e1 e2 k = (0, omega arith, ap (λ (y : List ℕ). y ++ 35 ∷ []) (sym (same (map raised w) (codes "T") e1)))
      by false true e1 e2 k = (1, omega arith, ap (λ (y : List ℕ). y ++ 35 ∷ []) (sym (same (map raised w) (codes "TIME") e2)))
      by false false e1 e2 k = absurd cc

  pub time_right : (after : List ℕ) (o : Option ℕ) → the_rest ≡ 35 ∷ after → is_word_of time_words the_word ≡ true → time_at after ≡ o
      → Stands (b ∷ bs) (token_or BadNumber kind.Duration (longer (suc (word_length (b ∷ bs))) o))
  time_right after None e t at = record {
    begun = faulty.time the_word after (whole_is after e) t;
    none = literal_by
        (λ w r rest same_w same_r is_type ends. apart w is_type (ap (is_word_of time_words) (sym same_w) ∙ t))
        (λ w r rest same_w same_r is_time x stops. time_found after r rest (behind_is w r rest after e same_r) x stops at);
  }
  time_right after (Some m) e t at =
      let n = suc (word_length (b ∷ bs)) in
      let s = time_some after m at in
      let text = text_at m after e in
      let rest = rest_at m after e in
      let is_time : IsTime (take (n + m) (b ∷ bs)) = subst IsTime (sym text) (time_text the_word (take m after) t s.rest) in
      stands kind.Duration (n + m) (b ∷ bs) (within_at m after e s.within) (omega arith)
      (texts.time refl is_time)
      (longest_by (n + m) (omega arith)
      (λ w r more same_w same_r is_type x. absurd (apart w is_type (ap (is_word_of time_words) (sym same_w) ∙ t)))
      (λ w r more same_w same_r is_time x. let le = time_bound after r more m at (behind_is w r more after e same_r) x in omega (arith, le)))
      (sound_literal (n + m) (faulty.time is_time (ap (begins in_word) rest ∙ s.stops)) (time_letters the_word t).all)

  -- ---- words

  -- nothing reads on behind the word
  pub record Alone : Type 0 where
    pub no_type : (after : List ℕ) → the_rest ≡ 35 ∷ after → is_word_of type_words the_word ≡ true → ⊥
    pub no_time : (after : List ℕ) → the_rest ≡ 35 ∷ after → is_word_of time_words the_word ≡ true → ⊥

  word_longest : Alone → IsLongest (word_length (b ∷ bs)) (b ∷ bs)
  word_longest alone = longest_by (word_length (b ∷ bs)) (omega arith)
      (λ w r more same_w same_r is_type x. absurd (alone.no_type (r ++ more) same_r (ap (is_word_of type_words) same_w ∙ is_type)))
      (λ w r more same_w same_r is_time x. absurd (alone.no_time (r ++ more) same_r (ap (is_word_of time_words) same_w ∙ is_time)))

  word_sound : Alone → is_spaced 95 the_word ≡ true → HasNoFault (b ∷ bs)
  word_sound alone spaced = record {
    no_open_comment = no_open;
    no_bad_name = λ x. clash (is_spaced 95 the_word) spaced (bad_name x);
    no_bad_number = λ x. by x.begun;
  }
    where
      letter_digit : (x : ℕ) → is_letter x ≡ true → is_digit x ≡ true → ⊥
      letter_digit x l d = grind (arith, nat_tests)

      by : BeginsLiteral (b ∷ bs) → ⊥
      by (faulty.digit h) = letter_digit b (lead_letter b is_first) h
      by (faulty.typed w r e h) = let s = same_word w r e (all_letters w (type_letters w h).all) in alone.no_type r s.1 (ap (is_word_of type_words) s.0 ∙ h)
      by (faulty.time w r e h) = let s = same_word w r e (all_letters w (time_letters w h).all) in alone.no_time r s.1 (ap (is_word_of time_words) s.0 ∙ h)

  all_in_word : list_all in_word the_word ≡ true
  unfolding the_word
  all_in_word = run_passes in_word (b ∷ bs)

  kind_text : (o : Option TokenKind) → is_spaced 95 the_word ≡ true → found_in keywords (map raised the_word) ≡ o → IsText (kind_or_name o) the_word
  kind_text (Some k) spaced e = texts.keyword (found_there keywords (map raised the_word) k e)
  kind_text None spaced e = texts.name refl (record {
    first = word_first;
    word = all_in_word;
    spaced = spaced;
    free = false_by (is_word_of keyword_texts the_word) (λ h. no_keyword (map raised the_word) e h);
  })

  pub word_right : Alone → Stands (b ∷ bs) (cond (is_spaced 95 the_word) (Token (word_kind the_word) (word_length (b ∷ bs))) (Fault BadName))
  unfolding the_word the_rest word_kind
  word_right alone = by (is_spaced 95 the_word) refl
    where
      by : (v : Bool) → is_spaced 95 (take (word_length (b ∷ bs)) (b ∷ bs)) ≡ v → Stands (b ∷ bs) (cond v (Token (kind_or_name (found_in keywords (map raised (take (word_length (b ∷ bs)) (b ∷ bs))))) (word_length (b ∷ bs))) (Fault BadName))
      by true e = stands (kind_or_name (found_in keywords (map raised (take (word_length (b ∷ bs)) (b ∷ bs))))) (word_length (b ∷ bs)) (b ∷ bs) (run_within in_word (b ∷ bs)) some
          (kind_text (found_in keywords (map raised (take (word_length (b ∷ bs)) (b ∷ bs)))) e refl) (word_longest alone) (word_sound alone e)
      by false e = record {
        word = take (word_length (b ∷ bs)) (b ∷ bs);
        rest = drop (word_length (b ∷ bs)) (b ∷ bs);
        bytes_are = split_at (word_length (b ∷ bs)) (b ∷ bs);
        first = word_first;
        in_words = run_passes in_word (b ∷ bs);
        ended = run_stops in_word (b ∷ bs);
        unspaced = e;
      }

  -- ---- what begins with a letter

  by_tests : (h t u : Bool) → hash_follows the_rest ≡ h → is_word_of type_words the_word ≡ t → is_word_of time_words the_word ≡ u
      → Stands (b ∷ bs) (cond (h && t) (token_or BadNumber kind.TypedNumber (longer (suc (word_length (b ∷ bs))) (typed_at the_word (drop 1 the_rest))))
      (cond (h && u) (token_or BadNumber kind.Duration (longer (suc (word_length (b ∷ bs))) (time_at (drop 1 the_rest))))
      (cond (is_spaced 95 the_word) (Token (word_kind the_word) (word_length (b ∷ bs))) (Fault BadName))))
  by_tests true true u h t v =
      let f = hash_first the_rest h in
      ap_after f.0 f.1 (typed_right f.0 (typed_at the_word f.0) f.1 t refl)
    where
      ap_after : (after : List ℕ) → the_rest ≡ 35 ∷ after → Stands (b ∷ bs) (token_or BadNumber kind.TypedNumber (longer (suc (word_length (b ∷ bs))) (typed_at the_word after)))
          → Stands (b ∷ bs) (token_or BadNumber kind.TypedNumber (longer (suc (word_length (b ∷ bs))) (typed_at the_word (drop 1 the_rest))))
      ap_after after e x = subst (λ (y : List ℕ). Stands (b ∷ bs) (token_or BadNumber kind.TypedNumber (longer (suc (word_length (b ∷ bs))) (typed_at the_word y)))) (sym (ap (drop 1) e)) x
  by_tests true false true h t v =
      let f = hash_first the_rest h in
      ap_after f.0 f.1 (time_right f.0 (time_at f.0) f.1 v refl)
    where
      ap_after : (after : List ℕ) → the_rest ≡ 35 ∷ after → Stands (b ∷ bs) (token_or BadNumber kind.Duration (longer (suc (word_length (b ∷ bs))) (time_at after)))
          → Stands (b ∷ bs) (token_or BadNumber kind.Duration (longer (suc (word_length (b ∷ bs))) (time_at (drop 1 the_rest))))
      ap_after after e x = subst (λ (y : List ℕ). Stands (b ∷ bs) (token_or BadNumber kind.Duration (longer (suc (word_length (b ∷ bs))) (time_at y)))) (sym (ap (drop 1) e)) x
  by_tests true false false h t v = word_right (record { no_type = λ after e x. clash (is_word_of type_words the_word) x t; no_time = λ after e x. clash (is_word_of time_words the_word) x v })
  by_tests false t u h e1 e2 = word_right (record { no_type = λ after e x. clash (hash_follows the_rest) (ap hash_follows e) h; no_time = λ after e x. clash (hash_follows the_rest) (ap hash_follows e) h })

  pub letter_right : Stands (b ∷ bs) (word_at (word_length (b ∷ bs)) (take (word_length (b ∷ bs)) (b ∷ bs)) (drop (word_length (b ∷ bs)) (b ∷ bs)))
  unfolding the_word the_rest word_at
  letter_right = by_tests (hash_follows the_rest) (is_word_of type_words the_word) (is_word_of time_words the_word) refl refl refl
