-- A text has one kind, and a place one fault.
use Rattle.std.proofs.Common.{◌≡◌, ℕ, zero, suc, Bool, true, false, not, ◌&&◌, ◌||◌, List, [], ◌∷◌, ◌++◌, map, codes, refl, sym, ap, subst, ◌∙◌, arith}
use Rattle.std.specs.Prelude.{nat_eq, bytes_eq}
use Rattle.std.specs.List.{list_all, list_any, Contains, zip}
use Rattle.std.proofs.lemmas.Bool.Decides.{nat_tests}
use Rattle.iec_tables.specs.Letters.{raised}
use Rattle.iec_tables.specs.Words.{keyword_texts}
use Rattle.iec_tables.specs.declared.fault.FaultCode.{FaultCode}
use Rattle.iec_tables.specs.declared.fault.FaultCode.TheVariants.{NotUtf8, BadByte, OpenComment, BadNumber, BadName, Grammar, TooDeep}
use Rattle.token_grammar.specs.declared.token.TokenKind.{TokenKind}
use Rattle.st_lexer.specs.declared.bytes.Lead.{Lead}
use Rattle.st_lexer.specs.declared.bytes.Lead.TheVariants as lead
use Rattle.st_lexer.specs.Bytes.{is_white, is_letter, in_word, begins, is_spaced}
use Rattle.st_lexer.specs.Texts.{IsText, keyword_kinds, keywords, marks, is_word_of}
use Rattle.st_lexer.specs.Faulty as faulty
use Rattle.st_lexer.specs.Faulty.{IsOpen, IsBadName, BeginsLiteral, IsBadNumber, IsBadByte, IsFaulty}
use Rattle.st_lexer.specs.Front.{lead_of}
use Rattle.st_lexer.proofs.Tests.{equal, clash, or_right}
use Rattle.st_lexer.proofs.Tables.{distinct, one_row}
use Rattle.st_lexer.proofs.Runs.{front_is, all_of_append}
use Rattle.st_lexer.proofs.Leads.{each_row, all_letters, type_letters, time_letters, TypedSplit, TimeSplit, keyword_plain, digit_lead}
use Rattle.st_lexer.proofs.LeadTexts as led
use Rattle.st_lexer.proofs.LeadTexts.{HasLead, LetterText, ParenthesisText, SlashText, lead_text, text_some, open_lead, name_lead, number_lead, may_open, may_name, may_number}
use Rattle.st_lexer.proofs.Numerals.{hashed}
use Rattle.st_lexer.proofs.RightWords.{apart, letters_spaced}

-- ---- tables whose texts differ

keywords_differ : distinct keywords ≡ true
unfolding distinct
keywords_differ = refl

marks_differ : distinct marks ≡ true
unfolding distinct
marks_differ = refl

not_true : (v : Bool) → not v ≡ true → v ≡ true → ⊥
not_true true a b = cc
not_true false a b = cc

-- a reserved word is no name
row_word : (kinds : List TokenKind) (words : List (List ℕ)) (k : TokenKind) (t : List ℕ) → Contains (zip kinds words) (k, t) → list_any (bytes_eq t) words ≡ true
row_word [] words k t (i, lt, e) = absurd (omega (arith, lt))
row_word (j ∷ kinds) [] k t (i, lt, e) = absurd (omega (arith, lt))
row_word (j ∷ kinds) (w ∷ words) k t (zero, lt, e) = rw (equal t w (sym (ap (λ (x : TokenKind × List ℕ). x.1) e))) refl
row_word (j ∷ kinds) (w ∷ words) k t (suc i, lt, e) = rw (row_word kinds words k t (i, omega (arith, lt), e)) (or_right (bytes_eq t w))

-- ---- words

no_hash : (text w r : List ℕ) → list_all in_word text ≡ true → text ≡ w ++ 35 ∷ r → ⊥
no_hash text w r h e = let x : (false && list_all in_word r) ≡ true = (all_of_append in_word w (35 ∷ r) (ap (list_all in_word) (sym e) ∙ h)).1 in cc

typed_no_time : (text : List ℕ) → TypedSplit text → TimeSplit text → ⊥
typed_no_time text s t =
    let f = hashed text s.word s.rest s.text_is (all_letters s.word (type_letters s.word s.is_type).all) in
    let g = hashed text t.word t.rest t.text_is (all_letters t.word (time_letters t.word t.is_time).all) in
    apart s.word s.is_type (ap (is_word_of (codes "T" ∷ codes "TIME" ∷ [])) (sym f.run ∙ g.run) ∙ t.is_time)

one_letter : (j k : TokenKind) (text : List ℕ) → LetterText j text → LetterText k text → j ≡ k
one_letter j k text (led.name a x) (led.name b y) = a ∙ sym b
one_letter j k text (led.name a x) (led.keyword y) = absurd (clash (is_word_of keyword_texts text) (row_word keyword_kinds keyword_texts k (map raised text) y) x.free)
one_letter j k text (led.name a x) (led.typed b y) = absurd (no_hash text y.word y.rest x.word y.text_is)
one_letter j k text (led.name a x) (led.time b y) = absurd (no_hash text y.word y.rest x.word y.text_is)
one_letter j k text (led.keyword x) (led.name b y) = absurd (clash (is_word_of keyword_texts text) (row_word keyword_kinds keyword_texts j (map raised text) x) y.free)
one_letter j k text (led.keyword x) (led.keyword y) = one_row keywords (map raised text) j k keywords_differ x y
one_letter j k text (led.keyword x) (led.typed b y) = absurd (no_hash text y.word y.rest (keyword_plain j text x).word y.text_is)
one_letter j k text (led.keyword x) (led.time b y) = absurd (no_hash text y.word y.rest (keyword_plain j text x).word y.text_is)
one_letter j k text (led.typed a x) (led.name b y) = absurd (no_hash text x.word x.rest y.word x.text_is)
one_letter j k text (led.typed a x) (led.keyword y) = absurd (no_hash text x.word x.rest (keyword_plain k text y).word x.text_is)
one_letter j k text (led.typed a x) (led.typed b y) = a ∙ sym b
one_letter j k text (led.typed a x) (led.time b y) = absurd (typed_no_time text x y)
one_letter j k text (led.time a x) (led.name b y) = absurd (no_hash text x.word x.rest y.word x.text_is)
one_letter j k text (led.time a x) (led.keyword y) = absurd (no_hash text x.word x.rest (keyword_plain k text y).word x.text_is)
one_letter j k text (led.time a x) (led.typed b y) = absurd (typed_no_time text y x)
one_letter j k text (led.time a x) (led.time b y) = a ∙ sym b

-- ---- comments and marks

-- a text that begins like a comment
opens : List ℕ → Bool
opens [] = false
opens (a ∷ []) = false
opens (a ∷ c ∷ text) = (nat_eq a 40 || nat_eq a 47) && (nat_eq c 42 || nat_eq c 47)

marks_open_none : list_all (λ row. not (opens row.1)) marks ≡ true
unfolding opens
marks_open_none = refl

no_mark : (k : TokenKind) (text : List ℕ) → Contains marks (k, text) → opens text ≡ true → ⊥
no_mark k text h e = not_true (opens text) (each_row (λ row. not (opens row.1)) marks (k, text) marks_open_none h) e

open_text : (text body : List ℕ) (a c : ℕ) → text ≡ a ∷ c ∷ body → opens (a ∷ c ∷ []) ≡ true → opens text ≡ true
unfolding opens
open_text text body a c e h = ap opens e ∙ h

one_parenthesis : (j k : TokenKind) (text : List ℕ) → ParenthesisText j text → ParenthesisText k text → j ≡ k
unfolding opens
one_parenthesis j k text (led.comment a x e h) (led.comment b y f g) = a ∙ sym b
one_parenthesis j k text (led.comment a x e h) (led.mark y) = absurd (no_mark k text y (open_text text x 40 42 e refl))
one_parenthesis j k text (led.mark x) (led.comment b y f g) = absurd (no_mark j text x (open_text text y 40 42 f refl))
one_parenthesis j k text (led.mark x) (led.mark y) = one_row marks text j k marks_differ x y

one_slash : (j k : TokenKind) (text : List ℕ) → SlashText j text → SlashText k text → j ≡ k
unfolding opens
one_slash j k text (led.line a x e h) (led.line b y f g) = a ∙ sym b
one_slash j k text (led.line a x e h) (led.comment b y f g) = a ∙ sym b
one_slash j k text (led.line a x e h) (led.mark y) = absurd (no_mark k text y (open_text text x 47 47 e refl))
one_slash j k text (led.comment a x e h) (led.line b y f g) = a ∙ sym b
one_slash j k text (led.comment a x e h) (led.comment b y f g) = a ∙ sym b
one_slash j k text (led.comment a x e h) (led.mark y) = absurd (no_mark k text y (open_text text x 47 42 e refl))
one_slash j k text (led.mark x) (led.line b y f g) = absurd (no_mark j text x (open_text text y 47 47 f refl))
one_slash j k text (led.mark x) (led.comment b y f g) = absurd (no_mark j text x (open_text text y 47 42 f refl))
one_slash j k text (led.mark x) (led.mark y) = one_row marks text j k marks_differ x y

one_led : (l : Lead) (j k : TokenKind) (text : List ℕ) → HasLead l j text → HasLead l k text → j ≡ k
one_led lead.Letter j k text x y = one_letter j k text x y
one_led lead.Digit j k text x y = x.0 ∙ sym y.0
one_led lead.Percent j k text x y = x.0 ∙ sym y.0
one_led lead.Brace j k text x y = x.0 ∙ sym y.0
one_led lead.Parenthesis j k text x y = one_parenthesis j k text x y
one_led lead.Slash j k text x y = one_slash j k text x y
one_led lead.Other j k text x y = one_row marks text j k marks_differ x y

-- a text has one kind
pub one_kind : (j k : TokenKind) (text : List ℕ) → IsText j text → IsText k text → j ≡ k
one_kind j k [] x y = absurd (text_some j x)
one_kind j k (b ∷ bs) x y = one_led (lead_of b) j k (b ∷ bs) (lead_text j (b ∷ bs) b bs x refl) (lead_text k (b ∷ bs) b bs y refl)

-- ---- white space begins neither a text nor a fault

white_lead : (b : ℕ) → is_white b ≡ true → lead_of b ≡ lead.Other
white_lead b e = grind (arith, nat_tests)

marks_dark : list_all (λ row. not (begins is_white row.1)) marks ≡ true
marks_dark = refl

pub text_dark : (k : TokenKind) (b : ℕ) (bs : List ℕ) → IsText k (b ∷ bs) → is_white b ≡ false
text_dark k b bs is = by (is_white b) refl
  where
    by : (v : Bool) → is_white b ≡ v → v ≡ false
    by true e =
        let h : HasLead lead.Other k (b ∷ bs) = subst (λ (l : Lead). HasLead l k (b ∷ bs)) (white_lead b e) (lead_text k (b ∷ bs) b bs is refl) in
        absurd (not_true (is_white b) (each_row (λ row. not (begins is_white row.1)) marks (k, b ∷ bs) marks_dark h) e)
    by false e = refl

fault_dark_by : (b : ℕ) (bs : List ℕ) (test : Lead → Bool) → test lead.Other ≡ false → test (lead_of b) ≡ true → is_white b ≡ false
fault_dark_by b bs test o h = by (is_white b) refl
  where
    by : (v : Bool) → is_white b ≡ v → v ≡ false
    by true e = absurd (clash (test (lead_of b)) h (ap test (white_lead b e) ∙ o))
    by false e = refl

pub fault_dark : (code : FaultCode) (rest : List ℕ) → IsFaulty code rest → begins is_white rest ≡ false
fault_dark code [] f = refl
fault_dark NotUtf8 (b ∷ bs) f = absurd f
fault_dark BadByte (b ∷ bs) f = by (is_white b) f.not_white
  where
    by : (v : Bool) → not v ≡ true → v ≡ false
    by true e = absurd cc
    by false e = refl
fault_dark OpenComment (b ∷ bs) f = fault_dark_by b bs may_open refl (open_lead b bs f)
fault_dark BadNumber (b ∷ bs) f = fault_dark_by b bs may_number refl (number_lead b bs f)
fault_dark BadName (b ∷ bs) f = fault_dark_by b bs may_name refl (name_lead b bs f)
fault_dark Grammar (b ∷ bs) f = absurd f
fault_dark TooDeep (b ∷ bs) f = absurd f

-- a fault stands at a byte
pub fault_some : (code : FaultCode) → IsFaulty code [] → ⊥
fault_some NotUtf8 f = f
fault_some BadByte f = let e = f.not_white in cc
fault_some OpenComment (faulty.comment s body e h) = cc
fault_some OpenComment (faulty.pragma body e h) = cc
fault_some BadNumber f = by f.begun
  where
    none : (w r : List ℕ) → [] ≡ w ++ 35 ∷ r → ⊥
    none [] r e = cc
    none (x ∷ w) r e = cc

    by : BeginsLiteral [] → ⊥
    by (faulty.digit h) = cc
    by (faulty.typed w r e h) = none w r e
    by (faulty.time w r e h) = none w r e
fault_some BadName f = by f.word f.first f.bytes_are
  where
    by : (w : List ℕ) → begins is_letter w ≡ true → [] ≡ w ++ f.rest → ⊥
    by [] h e = cc
    by (x ∷ w) h e = cc
fault_some Grammar f = f
fault_some TooDeep f = f

-- ---- one fault

open_no_name : (b : ℕ) (bs : List ℕ) → IsOpen (b ∷ bs) → IsBadName (b ∷ bs) → ⊥
open_no_name b bs x y = by (lead_of b) (open_lead b bs x) (name_lead b bs y)
  where
    by : (l : Lead) → may_open l ≡ true → may_name l ≡ true → ⊥
    by lead.Letter p q = cc
    by lead.Digit p q = cc
    by lead.Percent p q = cc
    by lead.Brace p q = cc
    by lead.Parenthesis p q = cc
    by lead.Slash p q = cc
    by lead.Other p q = cc

open_no_number : (b : ℕ) (bs : List ℕ) → IsOpen (b ∷ bs) → IsBadNumber (b ∷ bs) → ⊥
open_no_number b bs x y = by (lead_of b) (open_lead b bs x) (number_lead b bs y)
  where
    by : (l : Lead) → may_open l ≡ true → may_number l ≡ true → ⊥
    by lead.Letter p q = cc
    by lead.Digit p q = cc
    by lead.Percent p q = cc
    by lead.Brace p q = cc
    by lead.Parenthesis p q = cc
    by lead.Slash p q = cc
    by lead.Other p q = cc

name_no_number : (b : ℕ) (bs : List ℕ) → IsBadName (b ∷ bs) → IsBadNumber (b ∷ bs) → ⊥
name_no_number b bs n y = by y.begun
  where
    spaced : (w r : List ℕ) → b ∷ bs ≡ w ++ 35 ∷ r → list_all in_word w ≡ true → is_spaced 95 w ≡ true → ⊥
    spaced w r e h s =
        let f = front_is in_word (b ∷ bs) n.word n.rest n.bytes_are n.in_words n.ended in
        let g = hashed (b ∷ bs) w r e h in
        clash (is_spaced 95 w) s (ap (is_spaced 95) (sym g.run ∙ f.run) ∙ n.unspaced)

    digit_name : (l : Lead) → may_name l ≡ true → l ≡ lead.Digit → ⊥
    digit_name lead.Letter p q = cc
    digit_name lead.Digit p q = cc
    digit_name lead.Percent p q = cc
    digit_name lead.Brace p q = cc
    digit_name lead.Parenthesis p q = cc
    digit_name lead.Slash p q = cc
    digit_name lead.Other p q = cc

    by : BeginsLiteral (b ∷ bs) → ⊥
    by (faulty.digit h) = digit_name (lead_of b) (name_lead b bs n) (digit_lead b h)
    by (faulty.typed w r e h) = let l = (type_letters w h).all in spaced w r e (all_letters w l) (letters_spaced w l)
    by (faulty.time w r e h) = let l = (time_letters w h).all in spaced w r e (all_letters w l) (letters_spaced w l)

pub one_fault : (c d : FaultCode) (b : ℕ) (bs : List ℕ) → IsFaulty c (b ∷ bs) → IsFaulty d (b ∷ bs) → c ≡ d
one_fault NotUtf8 d b bs x y = absurd x
one_fault Grammar d b bs x y = absurd x
one_fault TooDeep d b bs x y = absurd x
one_fault BadByte NotUtf8 b bs x y = absurd y
one_fault BadByte BadByte b bs x y = refl
one_fault BadByte OpenComment b bs x y = absurd (x.no_fault.no_open_comment y)
one_fault BadByte BadNumber b bs x y = absurd (x.no_fault.no_bad_number y)
one_fault BadByte BadName b bs x y = absurd (x.no_fault.no_bad_name y)
one_fault BadByte Grammar b bs x y = absurd y
one_fault BadByte TooDeep b bs x y = absurd y
one_fault OpenComment NotUtf8 b bs x y = absurd y
one_fault OpenComment BadByte b bs x y = absurd (y.no_fault.no_open_comment x)
one_fault OpenComment OpenComment b bs x y = refl
one_fault OpenComment BadNumber b bs x y = absurd (open_no_number b bs x y)
one_fault OpenComment BadName b bs x y = absurd (open_no_name b bs x y)
one_fault OpenComment Grammar b bs x y = absurd y
one_fault OpenComment TooDeep b bs x y = absurd y
one_fault BadNumber NotUtf8 b bs x y = absurd y
one_fault BadNumber BadByte b bs x y = absurd (y.no_fault.no_bad_number x)
one_fault BadNumber OpenComment b bs x y = absurd (open_no_number b bs y x)
one_fault BadNumber BadNumber b bs x y = refl
one_fault BadNumber BadName b bs x y = absurd (name_no_number b bs y x)
one_fault BadNumber Grammar b bs x y = absurd y
one_fault BadNumber TooDeep b bs x y = absurd y
one_fault BadName NotUtf8 b bs x y = absurd y
one_fault BadName BadByte b bs x y = absurd (y.no_fault.no_bad_name x)
one_fault BadName OpenComment b bs x y = absurd (open_no_name b bs y x)
one_fault BadName BadNumber b bs x y = absurd (name_no_number b bs x y)
one_fault BadName BadName b bs x y = refl
one_fault BadName Grammar b bs x y = absurd y
one_fault BadName TooDeep b bs x y = absurd y
