-- What the functions find at the front stands there: comments, and marks.
use Rattle.std.proofs.Common.{◌≡◌, ℕ, suc, ◌+◌, ◌≤◌, Bool, true, false, cond, not, List, [], ◌∷◌, ◌++◌, length, take, drop, Option, Some, None, refl, sym, ap, subst, ◌∙◌, arith}
use Rattle.std.specs.Prelude.{nat_eq}
use Rattle.std.specs.List.{Contains}
use Rattle.std.proofs.lemmas.Bool.{eqb-true}
use Rattle.std.proofs.lemmas.Bool.Decides.{nat_tests}
use Rattle.iec_tables.specs.declared.fault.FaultCode.TheVariants.{OpenComment}
use Rattle.token_grammar.specs.declared.token.TokenKind.{TokenKind}
use Rattle.token_grammar.specs.declared.token.TokenKind.TheVariants as kind
use Rattle.st_lexer.specs.declared.comments.Style.{Style}
use Rattle.st_lexer.specs.declared.comments.Style.TheVariants.{Parentheses, Slashes}
use Rattle.st_lexer.specs.declared.front.Found.TheVariants.{Token}
use Rattle.st_lexer.specs.declared.bytes.Lead.{Lead}
use Rattle.st_lexer.specs.declared.bytes.Lead.TheVariants as lead
use Rattle.st_lexer.specs.Bytes.{is_white, begins}
use Rattle.st_lexer.specs.Texts as texts
use Rattle.st_lexer.specs.Texts.{IsText, closes, opener, marks}
use Rattle.st_lexer.specs.Faulty as faulty
use Rattle.st_lexer.specs.Faulty.{IsOpen, HasNoFault}
use Rattle.st_lexer.specs.Cut.{IsLongest}
use Rattle.st_lexer.specs.Front.{longer, token_or, line_length, comment_at, at_parenthesis, at_slash, mark_at, lead_of}
use Rattle.st_lexer.proofs.Tests.{differ, clash}
use Rattle.st_lexer.proofs.Runs.{run_passes, run_within, run_longest, cons_first, cons_rest}
use Rattle.st_lexer.proofs.Leads.{lead_parenthesis, lead_slash}
use Rattle.st_lexer.proofs.LeadTexts as led
use Rattle.st_lexer.proofs.LeadTexts.{ParenthesisText, SlashText, open_lead, name_lead, number_lead, may_open, may_name, may_number}
use Rattle.st_lexer.proofs.Closed.{closes_on, closes_front, some_is}
use Rattle.st_lexer.proofs.Standing.{Stands, stands, no_fault, OnlyMarks, mark_stands, mark_short, length_take}
use Rattle.st_lexer.proofs.Right.{led_text}

-- ---- comments with an end

-- a comment of this style that stands before a rest ends where the bytes close it
ends_there : (s : Style) (body inner rest : List ℕ) (n : ℕ) → closes s 0 body ≡ Some n → body ≡ inner ++ rest → closes s 0 inner ≡ Some (length inner) → length inner ≡ n
ends_there s body inner rest n e at h =
    let f : Some (length inner) ≡ Some n = sym (closes_on s 0 inner rest (length inner) h) ∙ ap (closes s 0) (sym at) ∙ e in
    some_is (length inner) n f

same_body : (a b c d : ℕ) (xs ys rest : List ℕ) → a ∷ b ∷ xs ≡ (c ∷ d ∷ ys) ++ rest → xs ≡ ys ++ rest
same_body a b c d xs ys rest e = cons_rest b d xs (ys ++ rest) (cons_rest a c (b ∷ xs) (d ∷ (ys ++ rest)) e)

second_is : (a b c d : ℕ) (xs ys : List ℕ) → a ∷ b ∷ xs ≡ c ∷ d ∷ ys → b ≡ d
second_is a b c d xs ys e = cons_first b d xs ys (cons_rest a c (b ∷ xs) (d ∷ ys) e)

text_at : (b : ℕ) (bs text rest other : List ℕ) → b ∷ bs ≡ text ++ rest → text ≡ other → b ∷ bs ≡ other ++ rest
text_at b bs text rest other at e = at ∙ ap (λ (t : List ℕ). t ++ rest) e

longest_parenthesis : (n : ℕ) (body : List ℕ) → closes Parentheses 0 body ≡ Some n → IsLongest (2 + n) (40 ∷ 42 ∷ body)
longest_parenthesis n body e k text rest at is = by (led_text 40 (42 ∷ body) lead.Parenthesis k text rest refl at is)
  where
    by : ParenthesisText k text → length text ≤ 2 + n
    by (led.comment k_is inner t h) =
        let len = ends_there Parentheses body inner rest n e (same_body 40 42 40 42 body inner rest (text_at 40 (42 ∷ body) text rest (40 ∷ 42 ∷ inner) at t)) h in
        omega (arith, ap length t, len)
    by (led.mark h) = omega (arith, mark_short k text h)

longest_slash : (n : ℕ) (body : List ℕ) → closes Slashes 0 body ≡ Some n → IsLongest (2 + n) (47 ∷ 42 ∷ body)
longest_slash n body e k text rest at is = by (led_text 47 (42 ∷ body) lead.Slash k text rest refl at is)
  where
    by : SlashText k text → length text ≤ 2 + n
    by (led.line k_is inner t h) = absurd (differ 42 47 refl (second_is 47 42 47 47 body (inner ++ rest) (text_at 47 (42 ∷ body) text rest (47 ∷ 47 ∷ inner) at t)))
    by (led.comment k_is inner t h) =
        let len = ends_there Slashes body inner rest n e (same_body 47 42 47 42 body inner rest (text_at 47 (42 ∷ body) text rest (47 ∷ 42 ∷ inner) at t)) h in
        omega (arith, ap length t, len)
    by (led.mark h) = omega (arith, mark_short k text h)

closed_fault : (s : Style) (n : ℕ) (body : List ℕ) → closes s 0 body ≡ Some n → IsOpen (opener s ∷ 42 ∷ body) → ⊥
closed_fault Parentheses n body e (faulty.comment Parentheses inner at h) =
    let f : None ≡ Some n = sym h ∙ ap (closes Parentheses 0) (sym (cons_rest 42 42 body inner (cons_rest 40 40 (42 ∷ body) (42 ∷ inner) at))) ∙ e in cc
closed_fault Parentheses n body e (faulty.comment Slashes inner at h) = differ 40 47 refl (cons_first 40 47 (42 ∷ body) (42 ∷ inner) at)
closed_fault Parentheses n body e (faulty.pragma inner at h) = differ 40 123 refl (cons_first 40 123 (42 ∷ body) inner at)
closed_fault Slashes n body e (faulty.comment Slashes inner at h) =
    let f : None ≡ Some n = sym h ∙ ap (closes Slashes 0) (sym (cons_rest 42 42 body inner (cons_rest 47 47 (42 ∷ body) (42 ∷ inner) at))) ∙ e in cc
closed_fault Slashes n body e (faulty.comment Parentheses inner at h) = differ 47 40 refl (cons_first 47 40 (42 ∷ body) (42 ∷ inner) at)
closed_fault Slashes n body e (faulty.pragma inner at h) = differ 47 123 refl (cons_first 47 123 (42 ∷ body) inner at)

sound_by : (b : ℕ) (bs : List ℕ) (l : Lead) → lead_of b ≡ l → may_name l ≡ false → may_number l ≡ false → (IsOpen (b ∷ bs) → ⊥) → HasNoFault (b ∷ bs)
sound_by b bs l e n m closed = record {
  no_open_comment = closed;
  no_bad_name = λ h. clash (may_name l) (ap may_name (sym e) ∙ name_lead b bs h) n;
  no_bad_number = λ h. clash (may_number l) (ap may_number (sym e) ∙ number_lead b bs h) m;
}

closed_sound : (s : Style) (n : ℕ) (body : List ℕ) → closes s 0 body ≡ Some n → HasNoFault (opener s ∷ 42 ∷ body)
closed_sound Parentheses n body e = sound_by 40 (42 ∷ body) lead.Parenthesis refl refl refl (closed_fault Parentheses n body e)
closed_sound Slashes n body e = sound_by 47 (42 ∷ body) lead.Slash refl refl refl (closed_fault Slashes n body e)

longest_comment : (s : Style) (n : ℕ) (body : List ℕ) → closes s 0 body ≡ Some n → IsLongest (2 + n) (opener s ∷ 42 ∷ body)
longest_comment Parentheses n body e = longest_parenthesis n body e
longest_comment Slashes n body e = longest_slash n body e

comment_right : (s : Style) (body : List ℕ) (o : Option ℕ) → closes s 0 body ≡ o → Stands (opener s ∷ 42 ∷ body) (token_or OpenComment kind.Comment (longer 2 o))
comment_right s body None e = faulty.comment s body refl e
comment_right s body (Some n) e =
    let f = closes_front s 0 body n e in
    let up : 2 + n ≡ suc (suc n) = omega arith in
    let len : Some n ≡ Some (length (take n body)) = ap (λ (k : ℕ). Some k) (sym (length_take n body f.within)) in
    stands kind.Comment (2 + n) (opener s ∷ 42 ∷ body) (omega (arith, f.within)) (omega arith)
    (texts.comment refl (texts.closed s (take n body) (ap (λ (k : ℕ). take k (opener s ∷ 42 ∷ body)) up) (f.shut ∙ len)))
    (longest_comment s n body e) (closed_sound s n body e)

-- ---- comments to the end of the line

line_right : (body : List ℕ) → Stands (47 ∷ 47 ∷ body) (Token kind.Comment (2 + line_length body))
line_right body =
    let n = line_length body in
    let up : 2 + n ≡ suc (suc n) = omega arith in
    stands kind.Comment (2 + n) (47 ∷ 47 ∷ body) (omega (arith, run_within no_feed body)) (omega arith)
    (texts.comment refl (texts.to_line_end (take n body) (ap (λ (k : ℕ). take k (47 ∷ 47 ∷ body)) up) (run_passes no_feed body)))
    (λ k text rest at is. longest k text rest at (led_text 47 (47 ∷ body) lead.Slash k text rest refl at is))
    (sound_by 47 (47 ∷ body) lead.Slash refl refl refl closed)
  where
    no_feed : ℕ → Bool
    no_feed = λ b. not (nat_eq b 10)

    longest : (k : TokenKind) (text rest : List ℕ) → 47 ∷ 47 ∷ body ≡ text ++ rest → SlashText k text → length text ≤ 2 + line_length body
    longest k text rest at (led.line k_is inner t h) =
        let most = run_longest no_feed inner rest h in
        let b : body ≡ inner ++ rest = same_body 47 47 47 47 body inner rest (text_at 47 (47 ∷ body) text rest (47 ∷ 47 ∷ inner) at t) in
        omega (arith, ap length t, most, ap line_length b)
    longest k text rest at (led.comment k_is inner t h) = absurd (differ 47 42 refl (second_is 47 47 47 42 body (inner ++ rest) (text_at 47 (47 ∷ body) text rest (47 ∷ 42 ∷ inner) at t)))
    longest k text rest at (led.mark h) = omega (arith, mark_short k text h)

    closed : IsOpen (47 ∷ 47 ∷ body) → ⊥
    closed (faulty.comment Parentheses inner at h) = differ 47 40 refl (cons_first 47 40 (47 ∷ body) (42 ∷ inner) at)
    closed (faulty.comment Slashes inner at h) = differ 47 42 refl (second_is 47 47 47 42 body inner at)
    closed (faulty.pragma inner at h) = differ 47 123 refl (cons_first 47 123 (47 ∷ body) inner at)

-- ---- marks

first_of : (b : ℕ) (rest : List ℕ) → begins (nat_eq b) rest ≡ true → (more : List ℕ) × (rest ≡ b ∷ more)
first_of b [] e = absurd cc
first_of b (x ∷ rest) e = (rest, let is : b ≡ x = eqb-true b x e in ap (λ (y : ℕ). y ∷ rest) (sym is))

not_second : (a b c : ℕ) (rest xs : List ℕ) → begins (nat_eq c) rest ≡ false → a ∷ rest ≡ b ∷ c ∷ xs → ⊥
not_second a b c rest xs e at =
    let is : begins (nat_eq c) rest ≡ true = ap (begins (nat_eq c)) (cons_rest a b rest (c ∷ xs) at) ∙ here c in
    clash (begins (nat_eq c) rest) is e
  where
    here : (c : ℕ) → nat_eq c c ≡ true
    here c = grind (arith, nat_tests)

open_second : (b : ℕ) (rest : List ℕ) → begins (nat_eq 42) rest ≡ false → (b ≡ 123 → ⊥) → IsOpen (b ∷ rest) → ⊥
open_second b rest e other (faulty.comment Parentheses inner at h) = not_second b 40 42 rest inner e at
open_second b rest e other (faulty.comment Slashes inner at h) = not_second b 47 42 rest inner e at
open_second b rest e other (faulty.pragma inner at h) = other (cons_first b 123 rest inner at)

parenthesis_marks : (rest : List ℕ) → begins (nat_eq 42) rest ≡ false → OnlyMarks (40 ∷ rest)
parenthesis_marks rest e k text r at is = by (led_text 40 rest lead.Parenthesis k text r refl at is)
  where
    by : ParenthesisText k text → Contains marks (k, text)
    by (led.comment k_is inner t h) = absurd (not_second 40 40 42 rest (inner ++ r) e (text_at 40 rest text r (40 ∷ 42 ∷ inner) at t))
    by (led.mark h) = h

slash_marks : (rest : List ℕ) → begins (nat_eq 42) rest ≡ false → begins (nat_eq 47) rest ≡ false → OnlyMarks (47 ∷ rest)
slash_marks rest e e2 k text r at is = by (led_text 47 rest lead.Slash k text r refl at is)
  where
    by : SlashText k text → Contains marks (k, text)
    by (led.line k_is inner t h) = absurd (not_second 47 47 47 rest (inner ++ r) e2 (text_at 47 rest text r (47 ∷ 47 ∷ inner) at t))
    by (led.comment k_is inner t h) = absurd (not_second 47 47 42 rest (inner ++ r) e (text_at 47 rest text r (47 ∷ 42 ∷ inner) at t))
    by (led.mark h) = h

pub parenthesis_right : (b : ℕ) (rest : List ℕ) → lead_of b ≡ lead.Parenthesis → Stands (b ∷ rest) (at_parenthesis rest)
parenthesis_right b rest l = subst (λ (x : ℕ). Stands (x ∷ rest) (at_parenthesis rest)) (sym (lead_parenthesis b l)) (by (begins (nat_eq 42) rest) refl)
  where
    by : (v : Bool) → begins (nat_eq 42) rest ≡ v → Stands (40 ∷ rest) (cond v (comment_at Parentheses (drop 1 rest)) (mark_at 40 rest))
    by true e = let f = first_of 42 rest e in subst (λ (t : List ℕ). Stands (40 ∷ t) (comment_at Parentheses (drop 1 t))) (sym f.1) (comment_right Parentheses f.0 (closes Parentheses 0 f.0) refl)
    by false e = mark_stands 40 rest (parenthesis_marks rest e) (sound_by 40 rest lead.Parenthesis refl refl refl (open_second 40 rest e (λ x. differ 40 123 refl x))) refl

pub slash_right : (b : ℕ) (rest : List ℕ) → lead_of b ≡ lead.Slash → Stands (b ∷ rest) (at_slash rest)
slash_right b rest l = subst (λ (x : ℕ). Stands (x ∷ rest) (at_slash rest)) (sym (lead_slash b l)) (by (begins (nat_eq 47) rest) (begins (nat_eq 42) rest) refl refl)
  where
    by : (u v : Bool) → begins (nat_eq 47) rest ≡ u → begins (nat_eq 42) rest ≡ v
        → Stands (47 ∷ rest) (cond u (Token kind.Comment (2 + line_length (drop 1 rest))) (cond v (comment_at Slashes (drop 1 rest)) (mark_at 47 rest)))
    by true v e1 e2 = let f = first_of 47 rest e1 in subst (λ (t : List ℕ). Stands (47 ∷ t) (Token kind.Comment (2 + line_length (drop 1 t)))) (sym f.1) (line_right f.0)
    by false true e1 e2 = let f = first_of 42 rest e2 in subst (λ (t : List ℕ). Stands (47 ∷ t) (comment_at Slashes (drop 1 t))) (sym f.1) (comment_right Slashes f.0 (closes Slashes 0 f.0) refl)
    by false false e1 e2 = mark_stands 47 rest (slash_marks rest e2 e1) (sound_by 47 rest lead.Slash refl refl refl (open_second 47 rest e2 (λ x. differ 47 123 refl x))) refl

pub other_right : (b : ℕ) (rest : List ℕ) → lead_of b ≡ lead.Other → is_white b ≡ false → Stands (b ∷ rest) (mark_at b rest)
other_right b rest l white = mark_stands b rest (λ k text r at is. led_text b rest lead.Other k text r l at is) (no_fault b rest lead.Other l refl refl refl) white
