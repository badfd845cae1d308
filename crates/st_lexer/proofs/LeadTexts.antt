-- The texts that a byte may lead, by its lead, and the faults that it may lead.
use Rattle.std.proofs.Common.{◌≡◌, ℕ, Bool, true, false, not, List, [], ◌∷◌, ◌++◌, length, map, Some, refl, sym, ap, subst, ◌∙◌, arith}
use Rattle.std.specs.Prelude.{nat_eq}
use Rattle.std.specs.List.{list_all, Contains}
use Rattle.std.proofs.lemmas.Bool.Decides.{nat_tests}
use Rattle.iec_tables.specs.Letters.{raised}
use Rattle.token_grammar.specs.declared.token.TokenKind.{TokenKind}
use Rattle.token_grammar.specs.declared.token.TokenKind.TheVariants as kind
use Rattle.st_lexer.specs.declared.comments.Style.{Style}
use Rattle.st_lexer.specs.declared.comments.Style.TheVariants.{Parentheses, Slashes}
use Rattle.st_lexer.specs.declared.bytes.Lead.{Lead}
use Rattle.st_lexer.specs.declared.bytes.Lead.TheVariants as lead
use Rattle.st_lexer.specs.Bytes.{is_letter, is_digit, begins, is_digit_in}
use Rattle.st_lexer.specs.Texts as texts
use Rattle.st_lexer.specs.Texts.{IsComment, IsPragma, IsName, IsNumeral, IsNumber, IsAddress, IsText, keywords, marks, opener, closes, bases}
use Rattle.st_lexer.specs.Front.{lead_of}
use Rattle.st_lexer.specs.Faulty as faulty
use Rattle.st_lexer.specs.Faulty.{IsOpen, IsBadName, BeginsLiteral, IsBadNumber}
use Rattle.st_lexer.proofs.Spaced.{joined}
use Rattle.st_lexer.proofs.Runs.{cons_first}
use Rattle.st_lexer.proofs.Leads.{letter_lead, digit_lead, each_row, raised_same, TypedSplit, typed_split, TimeSplit, time_split, keyword_plain, type_letters, time_letters}

-- ---- texts

pub data LetterText (k : TokenKind) (text : List ℕ) : Type 0 where
  name : k ≡ kind.Name → IsName text → LetterText k text
  keyword : Contains keywords (k, map raised text) → LetterText k text
  typed : k ≡ kind.TypedNumber → TypedSplit text → LetterText k text
  time : k ≡ kind.Duration → TimeSplit text → LetterText k text

pub data ParenthesisText (k : TokenKind) (text : List ℕ) : Type 0 where
  comment : k ≡ kind.Comment → (body : List ℕ) → text ≡ 40 ∷ 42 ∷ body → closes Parentheses 0 body ≡ Some (length body) → ParenthesisText k text
  mark : Contains marks (k, text) → ParenthesisText k text

pub data SlashText (k : TokenKind) (text : List ℕ) : Type 0 where
  line : k ≡ kind.Comment → (body : List ℕ) → text ≡ 47 ∷ 47 ∷ body → list_all (λ byte. not (nat_eq byte 10)) body ≡ true → SlashText k text
  comment : k ≡ kind.Comment → (body : List ℕ) → text ≡ 47 ∷ 42 ∷ body → closes Slashes 0 body ≡ Some (length body) → SlashText k text
  mark : Contains marks (k, text) → SlashText k text

abbrev pub HasLead : Lead → TokenKind → List ℕ → Type 0
HasLead lead.Letter k text = LetterText k text
HasLead lead.Digit k text = (k ≡ kind.Number) × IsNumber text
HasLead lead.Percent k text = (k ≡ kind.Address) × IsAddress text
HasLead lead.Brace k text = (k ≡ kind.Pragma) × IsPragma text
HasLead lead.Parenthesis k text = ParenthesisText k text
HasLead lead.Slash k text = SlashText k text
HasLead lead.Other k text = Contains marks (k, text)

led : (l : Lead) (b : ℕ) (k : TokenKind) (text : List ℕ) → lead_of b ≡ l → HasLead l k text → HasLead (lead_of b) k text
led l b k text e h = subst (λ (x : Lead). HasLead x k text) (sym e) h

-- the first byte of a list that begins so
first_passes : (test : ℕ → Bool) (text : List ℕ) (b : ℕ) (bs : List ℕ) → begins test text ≡ true → text ≡ b ∷ bs → test b ≡ true
first_passes test text b bs h e = ap (begins test) (sym e) ∙ h

ten_digit : (b : ℕ) → is_digit_in 10 b ≡ true → is_digit b ≡ true
ten_digit b e = grind (arith, nat_tests)

begins_append : (xs ys : List ℕ) → begins is_digit xs ≡ true → begins is_digit (xs ++ ys) ≡ true
begins_append [] ys e = cc
begins_append (x ∷ xs) ys e = e

pub number_first : (text : List ℕ) → IsNumber text → begins is_digit text ≡ true
number_first [] (texts.decimal n) = (joined (is_digit_in 10) 95 [] n.digits).first
number_first (b ∷ bs) (texts.decimal n) = ten_digit b (joined (is_digit_in 10) 95 (b ∷ bs) n.digits).first
number_first text (texts.based base m digits h e n) = ap (begins is_digit) e ∙ begins_append m digits (each_row (λ row. begins is_digit row.1) bases (base, m) refl h)

-- which leads a mark may have
abbrev pub is_marked : Lead → Bool
is_marked lead.Letter = false
is_marked lead.Digit = false
is_marked lead.Percent = false
is_marked lead.Brace = false
is_marked lead.Parenthesis = true
is_marked lead.Slash = true
is_marked lead.Other = true

all_marks_lead : list_all (λ row. begins (λ b. is_marked (lead_of b)) row.1) marks ≡ true
all_marks_lead = refl

mark_lead : (k : TokenKind) (text : List ℕ) (l : Lead) → is_marked l ≡ true → Contains marks (k, text) → HasLead l k text
mark_lead k text lead.Letter e h = absurd cc
mark_lead k text lead.Digit e h = absurd cc
mark_lead k text lead.Percent e h = absurd cc
mark_lead k text lead.Brace e h = absurd cc
mark_lead k text lead.Parenthesis e h = mark h
mark_lead k text lead.Slash e h = mark h
mark_lead k text lead.Other e h = h

comment_lead : (k : TokenKind) (text : List ℕ) (b : ℕ) (bs : List ℕ) (s : Style) (body : List ℕ) → k ≡ kind.Comment → text ≡ opener s ∷ 42 ∷ body → closes s 0 body ≡ Some (length body) → text ≡ b ∷ bs
    → HasLead (lead_of b) k text
comment_lead k text b bs Parentheses body is e h at = led lead.Parenthesis b k text (ap lead_of (cons_first b 40 bs (42 ∷ body) (sym at ∙ e))) (comment is body e h)
comment_lead k text b bs Slashes body is e h at = led lead.Slash b k text (ap lead_of (cons_first b 47 bs (42 ∷ body) (sym at ∙ e))) (comment is body e h)

split_first : (w r text : List ℕ) (b : ℕ) (bs : List ℕ) → begins is_letter w ≡ true → text ≡ w ++ 35 ∷ r → text ≡ b ∷ bs → is_letter b ≡ true
split_first [] r text b bs h e at = cc
split_first (x ∷ w) r text b bs h e at = ap is_letter (cons_first b x bs (w ++ 35 ∷ r) (sym at ∙ e)) ∙ h

pragma_lead : (k : TokenKind) (text : List ℕ) (b : ℕ) (bs : List ℕ) → k ≡ kind.Pragma → IsPragma text → text ≡ b ∷ bs → HasLead (lead_of b) k text
pragma_lead k text b bs is p at = led lead.Brace b k text (ap lead_of (cons_first b 123 bs (p.body ++ 125 ∷ []) (sym at ∙ p.text_is))) (is, p)

address_lead : (k : TokenKind) (text : List ℕ) (b : ℕ) (bs : List ℕ) → k ≡ kind.Address → IsAddress text → text ≡ b ∷ bs → HasLead (lead_of b) k text
address_lead k text b bs is a at =
    let raised_is : raised b ≡ 37 = cons_first (raised b) 37 (map raised bs) (a.area ∷ (a.size ++ a.numbers)) (ap (map raised) (sym at) ∙ a.text_is) in
    led lead.Percent b k text (ap lead_of (raised_same b 37 raised_is refl)) (is, a)

pub lead_text : (k : TokenKind) (text : List ℕ) (b : ℕ) (bs : List ℕ) → IsText k text → text ≡ b ∷ bs → HasLead (lead_of b) k text
lead_text k text b bs (texts.comment is (texts.to_line_end body e h)) at = led lead.Slash b k text (ap lead_of (cons_first b 47 bs (47 ∷ body) (sym at ∙ e))) (line is body e h)
lead_text k text b bs (texts.comment is (texts.closed s body e h)) at = comment_lead k text b bs s body is e h at
lead_text k text b bs (texts.pragma is p) at = pragma_lead k text b bs is p at
lead_text k text b bs (texts.name is n) at = led lead.Letter b k text (letter_lead b (first_passes is_letter text b bs n.first at)) (name is n)
lead_text k text b bs (texts.keyword h) at = let p = keyword_plain k text h in led lead.Letter b k text (letter_lead b (first_passes is_letter text b bs p.first at)) (keyword h)
lead_text k text b bs (texts.number is n) at = led lead.Digit b k text (digit_lead b (first_passes is_digit text b bs (number_first text n) at)) (is, n)
lead_text k text b bs (texts.typed is t) at =
    let s = typed_split text t in
    led lead.Letter b k text (letter_lead b (split_first s.word s.rest text b bs (type_letters s.word s.is_type).first s.text_is at)) (typed is s)
lead_text k text b bs (texts.time is t) at =
    let s = time_split text t in
    led lead.Letter b k text (letter_lead b (split_first s.word s.rest text b bs (time_letters s.word s.is_time).first s.text_is at)) (time is s)
lead_text k text b bs (texts.address is a) at = address_lead k text b bs is a at
lead_text k text b bs (texts.mark h) at =
    let row = each_row (λ row. begins (λ b. is_marked (lead_of b)) row.1) marks (k, text) all_marks_lead h in
    mark_lead k text (lead_of b) (first_passes (λ x. is_marked (lead_of x)) text b bs row at) h

-- a text has a first byte
pub text_some : (k : TokenKind) → IsText k [] → ⊥
text_some k (texts.comment is (texts.to_line_end body e h)) = cc
text_some k (texts.comment is (texts.closed s body e h)) = cc
text_some k (texts.pragma is p) = let e = p.text_is in cc
text_some k (texts.name is n) = let e = n.first in cc
text_some k (texts.keyword h) = let e = (keyword_plain k [] h).first in cc
text_some k (texts.number is n) = let e = number_first [] n in cc
text_some k (texts.typed is t) = let s = typed_split [] t in no_split s.word s.rest s.text_is
  where
    no_split : (w r : List ℕ) → [] ≡ w ++ 35 ∷ r → ⊥
    no_split [] r e = cc
    no_split (x ∷ w) r e = cc
text_some k (texts.time is t) = let s = time_split [] t in no_split s.word s.rest s.text_is
  where
    no_split : (w r : List ℕ) → [] ≡ w ++ 35 ∷ r → ⊥
    no_split [] r e = cc
    no_split (x ∷ w) r e = cc
text_some k (texts.address is a) = let e = a.text_is in cc
text_some k (texts.mark h) = let row = each_row (λ row. begins (λ b. is_marked (lead_of b)) row.1) marks (k, []) all_marks_lead h in cc

-- ---- faults

abbrev pub may_open : Lead → Bool
may_open lead.Letter = false
may_open lead.Digit = false
may_open lead.Percent = false
may_open lead.Brace = true
may_open lead.Parenthesis = true
may_open lead.Slash = true
may_open lead.Other = false

pub open_lead : (b : ℕ) (bs : List ℕ) → IsOpen (b ∷ bs) → may_open (lead_of b) ≡ true
open_lead b bs (faulty.comment Parentheses body e h) = ap (λ (x : ℕ). may_open (lead_of x)) (cons_first b 40 bs (42 ∷ body) e)
open_lead b bs (faulty.comment Slashes body e h) = ap (λ (x : ℕ). may_open (lead_of x)) (cons_first b 47 bs (42 ∷ body) e)
open_lead b bs (faulty.pragma body e h) = ap (λ (x : ℕ). may_open (lead_of x)) (cons_first b 123 bs body e)

abbrev pub may_name : Lead → Bool
may_name lead.Letter = true
may_name lead.Digit = false
may_name lead.Percent = false
may_name lead.Brace = false
may_name lead.Parenthesis = false
may_name lead.Slash = false
may_name lead.Other = false

name_first : (w r : List ℕ) (b : ℕ) (bs : List ℕ) → begins is_letter w ≡ true → b ∷ bs ≡ w ++ r → is_letter b ≡ true
name_first [] r b bs h e = cc
name_first (x ∷ w) r b bs h e = ap is_letter (cons_first b x bs (w ++ r) e) ∙ h

pub name_lead : (b : ℕ) (bs : List ℕ) → IsBadName (b ∷ bs) → may_name (lead_of b) ≡ true
name_lead b bs n = ap may_name (letter_lead b (name_first n.word n.rest b bs n.first n.bytes_are))

abbrev pub may_number : Lead → Bool
may_number lead.Letter = true
may_number lead.Digit = true
may_number lead.Percent = false
may_number lead.Brace = false
may_number lead.Parenthesis = false
may_number lead.Slash = false
may_number lead.Other = false

pub number_lead : (b : ℕ) (bs : List ℕ) → IsBadNumber (b ∷ bs) → may_number (lead_of b) ≡ true
number_lead b bs n = by n.begun
  where
    by : BeginsLiteral (b ∷ bs) → may_number (lead_of b) ≡ true
    by (faulty.digit h) = ap may_number (digit_lead b h)
    by (faulty.typed word rest e h) = ap may_number (letter_lead b (split_first word rest (b ∷ bs) b bs (type_letters word h).first e refl))
    by (faulty.time word rest e h) = ap may_number (letter_lead b (split_first word rest (b ∷ bs) b bs (time_letters word h).first e refl))
