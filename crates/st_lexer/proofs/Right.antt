-- What the functions find at the front stands there, whatever leads it but a letter.
use Rattle.std.proofs.Common.{◌≡◌, ℕ, zero, suc, ◌+◌, ◌<◌, true, List, [], ◌∷◌, ◌++◌, length, take, drop, Option, Some, None, refl, sym, ap, subst, ◌∙◌, arith}
use Rattle.std.specs.List.{list_all}
use Rattle.std.proofs.lemmas.Bool.Decides.{nat_tests}
use Rattle.std.proofs.lemmas.List.{length-append}
use Rattle.iec_tables.specs.declared.fault.FaultCode.TheVariants.{BadByte, OpenComment, BadNumber}
use Rattle.token_grammar.specs.declared.token.TokenKind.{TokenKind}
use Rattle.token_grammar.specs.declared.token.TokenKind.TheVariants as kind
use Rattle.st_lexer.specs.declared.comments.Style.{Style}
use Rattle.st_lexer.specs.declared.comments.Style.TheVariants.{Parentheses, Slashes}
use Rattle.st_lexer.specs.declared.bytes.Lead.{Lead}
use Rattle.st_lexer.specs.declared.bytes.Lead.TheVariants as lead
use Rattle.st_lexer.specs.Bytes.{is_letter, is_digit, begins}
use Rattle.st_lexer.specs.Texts as texts
use Rattle.st_lexer.specs.Texts.{IsComment, IsPragma, IsNumber, IsTyped, IsAddress, IsText, closes, opener, marks}
use Rattle.st_lexer.specs.Faulty as faulty
use Rattle.st_lexer.specs.Faulty.{IsOpen, IsBadName, HasLiteral, BeginsLiteral, IsBadNumber, HasNoFault, IsBadByte, IsFaulty}
use Rattle.st_lexer.specs.Front.{longer, token_or, number_at, pragma_at, address_at, lead_of}
use Rattle.st_lexer.proofs.Tests.{differ, both, clash}
use Rattle.st_lexer.proofs.Runs.{split_at, cons_first, cons_rest, append_assoc_}
use Rattle.st_lexer.proofs.Leads.{lead_digit, lead_percent, lead_brace, type_letters, time_letters, typed_split, time_split}
use Rattle.st_lexer.proofs.LeadTexts as led
use Rattle.st_lexer.proofs.LeadTexts.{HasLead, ParenthesisText, SlashText, lead_text, open_lead, name_lead, number_lead, may_open, may_name, may_number, text_some}
use Rattle.st_lexer.proofs.Numerals.{number_some, number_bound, number_found}
use Rattle.st_lexer.proofs.Closed.{some_is, pragma_some, pragma_none, pragma_found, no_brace}
use Rattle.st_lexer.proofs.AddressesAt.{address_some, address_reads}
use Rattle.st_lexer.proofs.Standing.{Stands, stands, no_fault}

-- what a text at the front must be, by the lead
pub led_text : (b : ℕ) (bs : List ℕ) (l : Lead) (k : TokenKind) (text rest : List ℕ) → lead_of b ≡ l → b ∷ bs ≡ text ++ rest → IsText k text → HasLead l k text
led_text b bs l k [] rest e at is = absurd (text_some k is)
led_text b bs l k (x ∷ xs) rest e at is =
    let first : b ≡ x = cons_first b x bs (xs ++ rest) at in
    subst (λ (y : Lead). HasLead y k (x ∷ xs)) (ap lead_of (sym first) ∙ e) (lead_text k (x ∷ xs) x xs is refl)

-- ---- digits

no_letter_word : (w r : List ℕ) (b : ℕ) (bs : List ℕ) → begins is_letter w ≡ true → b ∷ bs ≡ w ++ 35 ∷ r → is_letter b ≡ true
no_letter_word [] r b bs e at = absurd cc
no_letter_word (x ∷ w) r b bs e at = ap is_letter (cons_first b x bs (w ++ 35 ∷ r) at) ∙ e

letter_digit : (b : ℕ) → is_letter b ≡ true → is_digit b ≡ true → ⊥
letter_digit b l d = grind (arith, nat_tests)

-- a literal behind a digit is a number
only_number : (b : ℕ) (bs text rest : List ℕ) → is_digit b ≡ true → b ∷ bs ≡ text ++ rest → HasLiteral text rest → (m : ℕ) × (number_at (b ∷ bs) ≡ Some m)
only_number b bs text rest d at (faulty.number is ends) = (length text, number_found (b ∷ bs) text rest at is ends)
only_number b bs text rest d at (faulty.typed word sign digits e is_type s n ends) =
    absurd (letter_digit b (no_letter_word word ((sign ++ digits) ++ rest) b bs (type_letters word is_type).first (at ∙ ap (λ (t : List ℕ). t ++ rest) e ∙ append_assoc_ word (35 ∷ (sign ++ digits)) rest)) d)
only_number b bs text rest d at (faulty.truth t ends) =
    let s = typed_split text (texts.truth t) in
    absurd (letter_digit b (no_letter_word s.word (s.rest ++ rest) b bs (type_letters s.word s.is_type).first (at ∙ ap (λ (x : List ℕ). x ++ rest) s.text_is ∙ append_assoc_ s.word (35 ∷ s.rest) rest)) d)
only_number b bs text rest d at (faulty.time t ends) =
    let s = time_split text t in
    absurd (letter_digit b (no_letter_word s.word (s.rest ++ rest) b bs (time_letters s.word s.is_time).first (at ∙ ap (λ (x : List ℕ). x ++ rest) s.text_is ∙ append_assoc_ s.word (35 ∷ s.rest) rest)) d)

some_number : (b : ℕ) (bs : List ℕ) (m : ℕ) → is_digit b ≡ true → number_at (b ∷ bs) ≡ Some m → 0 < m
some_number b bs zero d e = let n = number_some (b ∷ bs) zero e in absurd (no_number (led.number_first [] n.is))
  where
    no_number : begins is_digit [] ≡ true → ⊥
    no_number h = cc
some_number b bs (suc m) d e = omega arith

pub digit_right : (b : ℕ) (bs : List ℕ) (o : Option ℕ) → lead_of b ≡ lead.Digit → number_at (b ∷ bs) ≡ o → Stands (b ∷ bs) (token_or BadNumber kind.Number o)
digit_right b bs None l e = record {
  begun = faulty.digit (lead_digit b l);
  none = λ text rest at h. by text rest at h;
}
  where
    by : (text rest : List ℕ) → b ∷ bs ≡ text ++ rest → HasLiteral text rest → ⊥
    by text rest at h = let f = only_number b bs text rest (lead_digit b l) at h in let g = sym e ∙ f.1 in cc
digit_right b bs (Some m) l e =
    let n = number_some (b ∷ bs) m e in
    stands kind.Number m (b ∷ bs) n.within (some_number b bs m (lead_digit b l) e) (texts.number refl n.is)
    (λ k text rest at is. number_bound (b ∷ bs) text rest m e at (led_text b bs lead.Digit k text rest l at is).1)
    (record {
      no_open_comment = λ h. clash (may_open lead.Digit) (ap may_open (sym l) ∙ open_lead b bs h) refl;
      no_bad_name = λ h. clash (may_name lead.Digit) (ap may_name (sym l) ∙ name_lead b bs h) refl;
      no_bad_number = λ h. h.none (take m (b ∷ bs)) (drop m (b ∷ bs)) (split_at m (b ∷ bs)) (faulty.number n.is n.ends);
    })

-- ---- addresses

pub percent_right : (b : ℕ) (bs : List ℕ) (o : Option ℕ) → lead_of b ≡ lead.Percent → address_at bs ≡ o → Stands (b ∷ bs) (token_or BadByte kind.Address (longer 1 o))
percent_right b bs None l e = record {
  not_white = rw (lead_percent b l) refl;
  no_fault = no_fault b bs lead.Percent l refl refl refl;
  none = λ k text rest at is. by k text rest at is;
}
  where
    by : (k : TokenKind) (text rest : List ℕ) → b ∷ bs ≡ text ++ rest → IsText k text → ⊥
    by k text rest at is =
        let a = (led_text b bs lead.Percent k text rest l at is).1 in
        let r = address_reads bs text rest (ap (λ (x : ℕ). x ∷ bs) (sym (lead_percent b l)) ∙ at) a in
        let g = sym e ∙ r.1 in cc
percent_right b bs (Some m) l e =
    let a = address_some bs m e in
    let up : 1 + m ≡ suc m = omega arith in
    let text : IsAddress (take (1 + m) (b ∷ bs)) = rw up (subst (λ (x : ℕ). IsAddress (x ∷ take m bs)) (sym (lead_percent b l)) a.1) in
    stands kind.Address (1 + m) (b ∷ bs) (omega (arith, a.0)) (omega arith) (texts.address refl text)
    (λ k x rest at is.
    let r = address_reads bs x rest (ap (λ (y : ℕ). y ∷ bs) (sym (lead_percent b l)) ∙ at) (led_text b bs lead.Percent k x rest l at is).1 in
    let same_some : Some r.0 ≡ Some m = sym r.1 ∙ e in
    omega (arith, r.2, some_is r.0 m same_some))
    (no_fault b bs lead.Percent l refl refl refl)

-- ---- pragmas

-- a pragma in braced bytes ends where the first `}` is
pragma_at_text : (b : ℕ) (bs text rest : List ℕ) → b ∷ bs ≡ text ++ rest → IsPragma text → (m : ℕ) × (pragma_at bs ≡ Some m) × (length text ≡ suc m)
pragma_at_text b bs text rest at p =
    let whole : b ∷ bs ≡ 123 ∷ (p.body ++ 125 ∷ rest) = at ∙ ap (λ (t : List ℕ). t ++ rest) p.text_is ∙ ap (λ (t : List ℕ). 123 ∷ t) (append_assoc_ p.body (125 ∷ []) rest) in
    let behind : bs ≡ p.body ++ 125 ∷ rest = cons_rest b 123 bs (p.body ++ 125 ∷ rest) whole in
    (suc (length p.body), ap pragma_at behind ∙ pragma_found p.body rest p.first, omega (arith, ap length p.text_is, length-append p.body (125 ∷ [])))

pub brace_right : (b : ℕ) (bs : List ℕ) (o : Option ℕ) → lead_of b ≡ lead.Brace → pragma_at bs ≡ o → Stands (b ∷ bs) (token_or OpenComment kind.Pragma (longer 1 o))
brace_right b bs None l e = faulty.pragma bs (ap (λ (x : ℕ). x ∷ bs) (lead_brace b l)) (pragma_none bs e)
brace_right b bs (Some m) l e =
    let p = pragma_some bs m e in
    let up : 1 + m ≡ suc m = omega arith in
    let whole : take (1 + m) (b ∷ bs) ≡ 123 ∷ (p.body ++ 125 ∷ []) = ap (λ (k : ℕ). take k (b ∷ bs)) up ∙ ap (λ (x : ℕ). x ∷ take m bs) (lead_brace b l) ∙ ap (λ (t : List ℕ). 123 ∷ t) p.text in
    stands kind.Pragma (1 + m) (b ∷ bs) (omega (arith, p.within)) (omega arith) (texts.pragma refl (record { body = p.body; text_is = whole; first = p.first }))
    (λ k x rest at is.
    let r = pragma_at_text b bs x rest at (led_text b bs lead.Brace k x rest l at is).1 in
    let same_some : Some r.0 ≡ Some m = sym r.1 ∙ e in
    omega (arith, r.2, some_is r.0 m same_some))
    (record {
      no_open_comment = λ h. by h;
      no_bad_name = λ h. clash (may_name lead.Brace) (ap may_name (sym l) ∙ name_lead b bs h) refl;
      no_bad_number = λ h. clash (may_number lead.Brace) (ap may_number (sym l) ∙ number_lead b bs h) refl;
    })
  where
    all_no_brace : (n : ℕ) (ts body : List ℕ) → list_all no_brace ts ≡ true → take n ts ≡ body ++ 125 ∷ [] → ⊥
    all_no_brace zero ts [] h t = cc
    all_no_brace zero ts (x ∷ body) h t = cc
    all_no_brace (suc n) [] [] h t = cc
    all_no_brace (suc n) [] (x ∷ body) h t = cc
    all_no_brace (suc n) (y ∷ ts) [] h t =
        let first : y ≡ 125 = cons_first y 125 (take n ts) [] t in
        let open_ = (both (no_brace y) (list_all no_brace ts) h).0 in
        let shut : no_brace 125 ≡ true = ap no_brace (sym first) ∙ open_ in
        cc
    all_no_brace (suc n) (y ∷ ts) (x ∷ body) h t = all_no_brace n ts body (both (no_brace y) (list_all no_brace ts) h).1 (cons_rest y x (take n ts) (body ++ 125 ∷ []) t)

    by : IsOpen (b ∷ bs) → ⊥
    by (faulty.comment s body at h) = no_brace_open s body at
      where
        no_brace_open : (s : Style) (body : List ℕ) → b ∷ bs ≡ opener s ∷ 42 ∷ body → ⊥
        no_brace_open Parentheses body at = differ 123 40 refl (sym (lead_brace b l) ∙ cons_first b 40 bs (42 ∷ body) at)
        no_brace_open Slashes body at = differ 123 47 refl (sym (lead_brace b l) ∙ cons_first b 47 bs (42 ∷ body) at)
    by (faulty.pragma body at h) =
        let p = pragma_some bs m e in
        let body_is : bs ≡ body = cons_rest b 123 bs body at in
        all_no_brace m bs p.body (ap (list_all no_brace) body_is ∙ h) p.text
