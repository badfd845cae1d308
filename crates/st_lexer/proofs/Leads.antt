-- Which byte leads the text of each kind, and the place of each fault.
use Rattle.std.proofs.Common.{◌≡◌, ℕ, zero, suc, ◌≤◌, Bool, true, false, cond, ◌&&◌, ◌||◌, ◌⊎◌, inl, inr, List, [], ◌∷◌, ◌++◌, map, codes, refl, sym, ap, ◌∙◌, arith}
use Rattle.std.specs.Prelude.{bytes_eq, nat_eq}
use Rattle.std.specs.List.{list_all, list_any, Contains}
use Rattle.std.proofs.lemmas.Bool.{eqb-true}
use Rattle.std.proofs.lemmas.Bool.Decides.{nat_tests}
use Rattle.iec_tables.specs.Letters.{raised}
use Rattle.token_grammar.specs.declared.token.TokenKind.{TokenKind}
use Rattle.st_lexer.specs.declared.comments.Style.{Style}
use Rattle.st_lexer.specs.declared.comments.Style.TheVariants.{Parentheses, Slashes}
use Rattle.st_lexer.specs.declared.bytes.Lead.TheVariants as lead
use Rattle.st_lexer.specs.Bytes.{between, is_alphabetic, is_letter, is_digit, in_word, begins}
use Rattle.st_lexer.specs.Times.{Part, ArePartsOf, sum_of, greatest, sign_of, IsTime}
use Rattle.st_lexer.specs.Texts as texts
use Rattle.st_lexer.specs.Texts.{is_word_of, IsComment, IsPragma, IsName, IsNumeral, IsNumber, IsTyped, IsSign, IsAddress, IsText, type_words, keywords, marks, opener, closes, bases}
use Rattle.st_lexer.specs.Front.{lead_of, truths}
use Rattle.st_lexer.proofs.Tests.{same, both, or_right}
use Rattle.st_lexer.proofs.Runs.{cons_first, cons_rest, all_wider}

-- ---- what a lead tells of its byte

letter_by : (a b c d e f : Bool) → cond a lead.Letter (cond b lead.Digit (cond c lead.Percent (cond d lead.Brace (cond e lead.Parenthesis (cond f lead.Slash lead.Other))))) ≡ lead.Letter → a ≡ true
letter_by true b c d e f h = refl
letter_by false true c d e f h = cc
letter_by false false true d e f h = cc
letter_by false false false true e f h = cc
letter_by false false false false true f h = cc
letter_by false false false false false true h = cc
letter_by false false false false false false h = cc

digit_by : (a b c d e f : Bool) → cond a lead.Letter (cond b lead.Digit (cond c lead.Percent (cond d lead.Brace (cond e lead.Parenthesis (cond f lead.Slash lead.Other))))) ≡ lead.Digit → b ≡ true
digit_by true b c d e f h = cc
digit_by false true c d e f h = refl
digit_by false false true d e f h = cc
digit_by false false false true e f h = cc
digit_by false false false false true f h = cc
digit_by false false false false false true h = cc
digit_by false false false false false false h = cc

percent_by : (a b c d e f : Bool) → cond a lead.Letter (cond b lead.Digit (cond c lead.Percent (cond d lead.Brace (cond e lead.Parenthesis (cond f lead.Slash lead.Other))))) ≡ lead.Percent → c ≡ true
percent_by true b c d e f h = cc
percent_by false true c d e f h = cc
percent_by false false true d e f h = refl
percent_by false false false true e f h = cc
percent_by false false false false true f h = cc
percent_by false false false false false true h = cc
percent_by false false false false false false h = cc

brace_by : (a b c d e f : Bool) → cond a lead.Letter (cond b lead.Digit (cond c lead.Percent (cond d lead.Brace (cond e lead.Parenthesis (cond f lead.Slash lead.Other))))) ≡ lead.Brace → d ≡ true
brace_by true b c d e f h = cc
brace_by false true c d e f h = cc
brace_by false false true d e f h = cc
brace_by false false false true e f h = refl
brace_by false false false false true f h = cc
brace_by false false false false false true h = cc
brace_by false false false false false false h = cc

parenthesis_by : (a b c d e f : Bool) → cond a lead.Letter (cond b lead.Digit (cond c lead.Percent (cond d lead.Brace (cond e lead.Parenthesis (cond f lead.Slash lead.Other))))) ≡ lead.Parenthesis → e ≡ true
parenthesis_by true b c d e f h = cc
parenthesis_by false true c d e f h = cc
parenthesis_by false false true d e f h = cc
parenthesis_by false false false true e f h = cc
parenthesis_by false false false false true f h = refl
parenthesis_by false false false false false true h = cc
parenthesis_by false false false false false false h = cc

slash_by : (a b c d e f : Bool) → cond a lead.Letter (cond b lead.Digit (cond c lead.Percent (cond d lead.Brace (cond e lead.Parenthesis (cond f lead.Slash lead.Other))))) ≡ lead.Slash → f ≡ true
slash_by true b c d e f h = cc
slash_by false true c d e f h = cc
slash_by false false true d e f h = cc
slash_by false false false true e f h = cc
slash_by false false false false true f h = cc
slash_by false false false false false true h = refl
slash_by false false false false false false h = cc

pub lead_letter : (b : ℕ) → lead_of b ≡ lead.Letter → is_letter b ≡ true
lead_letter b e = letter_by (is_letter b) (is_digit b) (nat_eq b 37) (nat_eq b 123) (nat_eq b 40) (nat_eq b 47) e

pub lead_digit : (b : ℕ) → lead_of b ≡ lead.Digit → is_digit b ≡ true
lead_digit b e = digit_by (is_letter b) (is_digit b) (nat_eq b 37) (nat_eq b 123) (nat_eq b 40) (nat_eq b 47) e

pub lead_percent : (b : ℕ) → lead_of b ≡ lead.Percent → b ≡ 37
lead_percent b e = eqb-true b 37 (percent_by (is_letter b) (is_digit b) (nat_eq b 37) (nat_eq b 123) (nat_eq b 40) (nat_eq b 47) e)

pub lead_brace : (b : ℕ) → lead_of b ≡ lead.Brace → b ≡ 123
lead_brace b e = eqb-true b 123 (brace_by (is_letter b) (is_digit b) (nat_eq b 37) (nat_eq b 123) (nat_eq b 40) (nat_eq b 47) e)

pub lead_parenthesis : (b : ℕ) → lead_of b ≡ lead.Parenthesis → b ≡ 40
lead_parenthesis b e = eqb-true b 40 (parenthesis_by (is_letter b) (is_digit b) (nat_eq b 37) (nat_eq b 123) (nat_eq b 40) (nat_eq b 47) e)

pub lead_slash : (b : ℕ) → lead_of b ≡ lead.Slash → b ≡ 47
lead_slash b e = eqb-true b 47 (slash_by (is_letter b) (is_digit b) (nat_eq b 37) (nat_eq b 123) (nat_eq b 40) (nat_eq b 47) e)

-- ---- what a byte tells of its lead

pub letter_lead : (b : ℕ) → is_letter b ≡ true → lead_of b ≡ lead.Letter
letter_lead b e = rw e refl

no_letter : (b : ℕ) → is_digit b ≡ true → is_letter b ≡ false
no_letter b e = grind (arith, nat_tests)

pub digit_lead : (b : ℕ) → is_digit b ≡ true → lead_of b ≡ lead.Digit
digit_lead b e = rw (no_letter b e, e) refl

pub opener_lead : (s : Style) → (lead_of (opener s) ≡ lead.Parenthesis) ⊎ (lead_of (opener s) ≡ lead.Slash)
opener_lead Parentheses = inl refl
opener_lead Slashes = inr refl

-- ---- words with letters raised

abbrev pub is_capital : ℕ → Bool
is_capital b = between 65 90 b

-- a capital letter or an underscore
abbrev pub is_upper : ℕ → Bool
is_upper b = is_capital b || nat_eq b 95

pub raised_capital : (b : ℕ) → is_capital (raised b) ≡ true → is_alphabetic b ≡ true
raised_capital b e = grind (arith, nat_tests)

pub alphabetic_letter : (b : ℕ) → is_alphabetic b ≡ true → is_letter b ≡ true
alphabetic_letter b e = rw e refl

pub letter_word : (b : ℕ) → is_letter b ≡ true → in_word b ≡ true
letter_word b e = rw e refl

pub digit_word : (b : ℕ) → is_digit b ≡ true → in_word b ≡ true
digit_word b e = rw e (or_right (is_letter b))

raised_upper : (b : ℕ) → is_upper (raised b) ≡ true → in_word b ≡ true
raised_upper b e = grind (arith, nat_tests)

pub raised_hash : (b : ℕ) → raised b ≡ 35 → b ≡ 35
raised_hash b e = grind (arith, nat_tests)

pub raised_same : (b c : ℕ) → raised b ≡ c → between 65 90 c ≡ false → b ≡ c
raised_same b c e h = grind (arith, nat_tests)

pub capitals : (w t : List ℕ) → map raised w ≡ t → list_all is_capital t ≡ true → list_all is_alphabetic w ≡ true
capitals [] t e h = refl
capitals (b ∷ w) [] e h = cc
capitals (b ∷ w) (c ∷ t) e h =
    let parts = both (is_capital c) (list_all is_capital t) h in
    let here : raised b ≡ c = cc in
    let more : map raised w ≡ t = cc in
    rw (raised_capital b (ap is_capital here ∙ parts.0)) (capitals w t more parts.1)

uppers : (w t : List ℕ) → map raised w ≡ t → list_all is_upper t ≡ true → list_all in_word w ≡ true
uppers [] t e h = refl
uppers (b ∷ w) [] e h = cc
uppers (b ∷ w) (c ∷ t) e h =
    let parts = both (is_upper c) (list_all is_upper t) h in
    let here : raised b ≡ c = cc in
    let more : map raised w ≡ t = cc in
    rw (raised_upper b (ap is_upper here ∙ parts.0)) (uppers w t more parts.1)

-- what holds of each row holds of one that is there
pub each_row : {X : Type 0} (test : X → Bool) (rows : List X) (x : X) → list_all test rows ≡ true → Contains rows x → test x ≡ true
each_row test [] x h (i, lt, e) = absurd (omega (arith, lt))
each_row test (r ∷ rows) x h (zero, lt, e) = let parts = both (test r) (list_all test rows) h in ap test (sym e) ∙ parts.0
each_row test (r ∷ rows) x h (suc i, lt, e) = let parts = both (test r) (list_all test rows) h in each_row test rows x parts.1 (i, omega (arith, lt), e)

pub one_of_two : {X : Type 0} (a b x : X) → Contains (a ∷ b ∷ []) x → (a ≡ x) ⊎ (b ≡ x)
one_of_two a b x (zero, lt, e) = inl e
one_of_two a b x (suc zero, lt, e) = inr e
one_of_two a b x (suc (suc i), lt, e) = absurd (omega (arith, lt))

-- the word that a text is, letters raised
pub record WordAmong (test : List ℕ → Bool) (words : List (List ℕ)) (w : List ℕ) : Type 0 where
  pub word : List ℕ
  pub is : map raised w ≡ word
  pub passes : test word ≡ true

among_by : (test : List ℕ → Bool) (t : List ℕ) (ts : List (List ℕ)) (w : List ℕ) (v : Bool) → bytes_eq (map raised w) t ≡ v → test t ≡ true
    → (list_any (bytes_eq (map raised w)) ts ≡ true → WordAmong test ts w) → (v || list_any (bytes_eq (map raised w)) ts) ≡ true → WordAmong test (t ∷ ts) w
among_by test t ts w true is here more k = record { word = t; is = same (map raised w) t is; passes = here }
among_by test t ts w false is here more k = let r = more k in record { word = r.word; is = r.is; passes = r.passes }

pub word_among : (test : List ℕ → Bool) (words : List (List ℕ)) (w : List ℕ) → list_all test words ≡ true → is_word_of words w ≡ true → WordAmong test words w
word_among test [] w h e = absurd cc
word_among test (t ∷ ts) w h e =
    let parts = both (test t) (list_all test ts) h in
    among_by test t ts w (bytes_eq (map raised w) t) refl parts.0 (word_among test ts w parts.1) e

is_capital_word : List ℕ → Bool
is_capital_word t = begins is_capital t && list_all is_capital t

all_types_capital : list_all is_capital_word type_words ≡ true
unfolding is_capital_word
all_types_capital = refl

all_times_capital : list_all is_capital_word (codes "T" ∷ codes "TIME" ∷ []) ≡ true
unfolding is_capital_word
all_times_capital = refl

-- the first byte of a word whose first letter is a capital when raised
pub first_letter : (w t : List ℕ) → map raised w ≡ t → begins is_capital t ≡ true → begins is_letter w ≡ true
first_letter [] [] e h = h
first_letter [] (c ∷ t) e h = cc
first_letter (b ∷ w) [] e h = cc
first_letter (b ∷ w) (c ∷ t) e h = let here : raised b ≡ c = cc in alphabetic_letter b (raised_capital b (ap is_capital here ∙ h))

pub record IsLetters (w : List ℕ) : Type 0 where
  pub first : begins is_letter w ≡ true
  pub all : list_all is_alphabetic w ≡ true

letters_of : (words : List (List ℕ)) (w : List ℕ) → list_all is_capital_word words ≡ true → is_word_of words w ≡ true → IsLetters w
unfolding is_capital_word
letters_of words w h e =
    let r = word_among is_capital_word words w h e in
    let parts = both (begins is_capital r.word) (list_all is_capital r.word) r.passes in
    record { first = first_letter w r.word r.is parts.0; all = capitals w r.word r.is parts.1 }

pub type_letters : (w : List ℕ) → is_word_of type_words w ≡ true → IsLetters w
type_letters w e = letters_of type_words w all_types_capital e

pub time_letters : (w : List ℕ) → is_word_of (codes "T" ∷ codes "TIME" ∷ []) w ≡ true → IsLetters w
time_letters w e = letters_of (codes "T" ∷ codes "TIME" ∷ []) w all_times_capital e

-- ---- words before a `#`

pub record Split (text u v : List ℕ) : Type 0 where
  pub word : List ℕ
  pub rest : List ℕ
  pub text_is : text ≡ word ++ 35 ∷ rest
  pub word_is : map raised word ≡ u
  pub rest_is : map raised rest ≡ v

pub raised_split : (text u v : List ℕ) → map raised text ≡ u ++ 35 ∷ v → Split text u v
raised_split [] [] v e = cc
raised_split [] (c ∷ u) v e = cc
raised_split (b ∷ text) [] v e =
    let here : b ≡ 35 = raised_hash b (cons_first (raised b) 35 (map raised text) v e) in
    record { word = []; rest = text; text_is = ap (λ (x : ℕ). x ∷ text) here; word_is = refl; rest_is = cons_rest (raised b) 35 (map raised text) v e }
raised_split (b ∷ text) (c ∷ u) v e =
    let more = raised_split text u v (cons_rest (raised b) c (map raised text) (u ++ 35 ∷ v) e) in
    let first : raised b ≡ c = cons_first (raised b) c (map raised text) (u ++ 35 ∷ v) e in
    record {
      word = b ∷ more.word;
      rest = more.rest;
      text_is = ap (λ (t : List ℕ). b ∷ t) more.text_is;
      word_is = ap (λ (x : ℕ). x ∷ map raised more.word) first ∙ ap (λ (t : List ℕ). c ∷ t) more.word_is;
      rest_is = more.rest_is;
    }

-- what stands behind the `#` of a typed number
pub data TypedRest (word rest : List ℕ) : Type 0 where
  number : (sign digits : List ℕ) → rest ≡ sign ++ digits → IsSign sign → IsNumber digits → TypedRest word rest
  truth : is_word_of (codes "BOOL" ∷ []) word ≡ true → is_word_of truths rest ≡ true → TypedRest word rest

pub record TypedSplit (text : List ℕ) : Type 0 where
  pub word : List ℕ
  pub rest : List ℕ
  pub text_is : text ≡ word ++ 35 ∷ rest
  pub is_type : is_word_of type_words word ≡ true
  pub after_hash : TypedRest word rest

raised_word : (words : List (List ℕ)) (w t : List ℕ) → map raised w ≡ t → list_any (bytes_eq t) words ≡ true → is_word_of words w ≡ true
raised_word words w t e h = ap (λ (x : List ℕ). list_any (bytes_eq x) words) e ∙ h

-- `BOOL#TRUE` and `BOOL#FALSE`
pub record TruthSplit (text : List ℕ) : Type 0 where
  pub word : List ℕ
  pub rest : List ℕ
  pub text_is : text ≡ word ++ 35 ∷ rest
  pub is_type : is_word_of type_words word ≡ true
  pub is_bool : is_word_of (codes "BOOL" ∷ []) word ≡ true
  pub is_truth : is_word_of truths rest ≡ true

truth_split : (text v : List ℕ) → map raised text ≡ codes "BOOL" ++ 35 ∷ v → list_any (bytes_eq v) truths ≡ true → TruthSplit text
truth_split text v e h =
    let s = raised_split text (codes "BOOL") v e in
    record {
      word = s.word;
      rest = s.rest;
      text_is = s.text_is;
      is_type = raised_word type_words s.word (codes "BOOL") s.word_is refl;
      is_bool = raised_word (codes "BOOL" ∷ []) s.word (codes "BOOL") s.word_is refl;
      is_truth = raised_word truths s.rest v s.rest_is h;
    }

truth_by : (text : List ℕ) (v w : Bool) → bytes_eq (map raised text) (codes "BOOL#TRUE") ≡ v → bytes_eq (map raised text) (codes "BOOL#FALSE") ≡ w → (v || (w || false)) ≡ true → TruthSplit text
truth_by text true w e1 e2 h = truth_split text (codes "TRUE") (same (map raised text) (codes "BOOL#TRUE") e1) refl
truth_by text false true e1 e2 h = truth_split text (codes "FALSE") (same (map raised text) (codes "BOOL#FALSE") e2) refl
truth_by text false false e1 e2 h = absurd cc

pub truth_parts : (text : List ℕ) → is_word_of (codes "BOOL#TRUE" ∷ codes "BOOL#FALSE" ∷ []) text ≡ true → TruthSplit text
truth_parts text e = truth_by text (bytes_eq (map raised text) (codes "BOOL#TRUE")) (bytes_eq (map raised text) (codes "BOOL#FALSE")) refl refl e

pub typed_split : (text : List ℕ) → IsTyped text → TypedSplit text
typed_split text (texts.number word sign digits e is_type sign_is number_is) =
    record { word = word; rest = sign ++ digits; text_is = e; is_type = is_type; after_hash = number sign digits refl sign_is number_is }
typed_split text (texts.truth e) =
    let t = truth_parts text e in
    record { word = t.word; rest = t.rest; text_is = t.text_is; is_type = t.is_type; after_hash = truth t.is_bool t.is_truth }

-- what stands behind the `#` of a time
pub record TimeRest (rest : List ℕ) : Type 0 where
  pub negative : Bool
  pub body : List ℕ
  pub parts : List Part
  pub rest_is : map raised rest ≡ sign_of negative ++ body
  pub are_parts : ArePartsOf parts body
  pub in_range : sum_of parts ≤ greatest negative

pub record TimeSplit (text : List ℕ) : Type 0 where
  pub word : List ℕ
  pub rest : List ℕ
  pub text_is : text ≡ word ++ 35 ∷ rest
  pub is_time : is_word_of (codes "T" ∷ codes "TIME" ∷ []) word ≡ true
  pub after_hash : TimeRest rest

time_from : (text u : List ℕ) (t : IsTime text) → map raised text ≡ u ++ 35 ∷ (sign_of t.negative ++ t.body) → list_any (bytes_eq u) (codes "T" ∷ codes "TIME" ∷ []) ≡ true → TimeSplit text
time_from text u t e h =
    let s = raised_split text u (sign_of t.negative ++ t.body) e in
    record {
      word = s.word;
      rest = s.rest;
      text_is = s.text_is;
      is_time = raised_word (codes "T" ∷ codes "TIME" ∷ []) s.word u s.word_is h;
      after_hash = record { negative = t.negative; body = t.body; parts = t.parts; rest_is = s.rest_is; are_parts = t.are_parts; in_range = t.in_range };
    }

pub time_split : (text : List ℕ) → IsTime text → TimeSplit text
time_split text t = by (one_of_two (codes "T#") (codes "TIME#") t.head t.is_head)
  where
    by : (codes "T#" ≡ t.head) ⊎ (codes "TIME#" ≡ t.head) → TimeSplit text
    by (inl e) = time_from text (codes "T") t (t.text_is ∙ ap (λ (h : List ℕ). h ++ (sign_of t.negative ++ t.body)) (sym e)) refl
    by (inr e) = time_from text (codes "TIME") t (t.text_is ∙ ap (λ (h : List ℕ). h ++ (sign_of t.negative ++ t.body)) (sym e)) refl

-- ---- reserved words

is_upper_row : TokenKind × List ℕ → Bool
is_upper_row row = begins is_capital row.1 && list_all is_upper row.1

all_keywords_upper : list_all is_upper_row keywords ≡ true
unfolding is_upper_row
all_keywords_upper = refl

pub record IsPlain (text : List ℕ) : Type 0 where
  pub first : begins is_letter text ≡ true
  pub word : list_all in_word text ≡ true

pub keyword_plain : (k : TokenKind) (text : List ℕ) → Contains keywords (k, map raised text) → IsPlain text
unfolding is_upper_row
keyword_plain k text h =
    let row = each_row is_upper_row keywords (k, map raised text) all_keywords_upper h in
    let parts = both (begins is_capital (map raised text)) (list_all is_upper (map raised text)) row in
    record { first = first_letter text (map raised text) refl parts.0; word = uppers text (map raised text) refl parts.1 }

pub all_letters : (w : List ℕ) → list_all is_alphabetic w ≡ true → list_all in_word w ≡ true
all_letters w h = all_wider is_alphabetic in_word (λ b e. letter_word b (alphabetic_letter b e)) w h

pub one_of_three : {X : Type 0} (a b c x : X) → Contains (a ∷ b ∷ c ∷ []) x → (a ≡ x) ⊎ ((b ≡ x) ⊎ (c ≡ x))
one_of_three a b c x (zero, lt, e) = inl e
one_of_three a b c x (suc zero, lt, e) = inr (inl e)
one_of_three a b c x (suc (suc zero), lt, e) = inr (inr e)
one_of_three a b c x (suc (suc (suc i)), lt, e) = absurd (omega (arith, lt))
