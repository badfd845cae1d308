-- What stands at the front, as the definition says, and what serves each lead.
use Rattle.std.proofs.Common.{◌≡◌, ℕ, ◌<◌, ◌≤◌, true, false, leb, List, [], ◌∷◌, ◌++◌, length, take, drop, Option, Some, None, refl, sym, ap, subst, ◌∙◌, arith}
use Rattle.std.specs.List.{list_all, Contains}
use Rattle.std.proofs.lemmas.Bool.{leb-true}
use Rattle.std.proofs.lemmas.List.{length-append, length-take}
use Rattle.token_grammar.specs.declared.token.TokenKind.{TokenKind}
use Rattle.st_lexer.specs.declared.front.Found.{Found}
use Rattle.st_lexer.specs.declared.front.Found.TheVariants.{Token, Fault}
use Rattle.st_lexer.specs.declared.bytes.Lead.{Lead}
use Rattle.st_lexer.specs.Bytes.{is_white}
use Rattle.st_lexer.specs.Texts as texts
use Rattle.st_lexer.specs.Texts.{IsText, marks}
use Rattle.st_lexer.specs.Faulty.{HasNoFault, IsFaulty}
use Rattle.st_lexer.specs.Cut.{IsLongest, IsToken}
use Rattle.st_lexer.specs.Front.{found_in, long_mark, short_mark, long_or, mark_at, lead_of}
use Rattle.st_lexer.proofs.Tables.{found_there, found_missing}
use Rattle.st_lexer.proofs.Tests.{clash}
use Rattle.st_lexer.proofs.Runs.{split_at, cons_first, cons_rest}
use Rattle.st_lexer.proofs.Leads.{each_row}
use Rattle.st_lexer.proofs.LeadTexts.{may_open, may_name, may_number, open_lead, name_lead, number_lead, text_some}

-- a token or a fault at the front
pub record StandsToken (k : TokenKind) (n : ℕ) (bytes : List ℕ) : Type 0 where
  pub within : n ≤ length bytes
  pub some : 0 < n
  pub token : IsToken k (take n bytes) (drop n bytes)

abbrev pub Stands : List ℕ → Found → Type 0
Stands bytes (Token k n) = StandsToken k n bytes
Stands bytes (Fault code) = IsFaulty code bytes

pub length_take : (n : ℕ) (bytes : List ℕ) → n ≤ length bytes → length (take n bytes) ≡ n
length_take n bytes le = omega (arith, length-take n bytes, le)

pub stands : (k : TokenKind) (n : ℕ) (bytes : List ℕ) → n ≤ length bytes → 0 < n → IsText k (take n bytes) → IsLongest n bytes → HasNoFault bytes → StandsToken k n bytes
stands k n bytes le some text longest sound = record {
  within = le;
  some = some;
  token = record {
    text_is = text;
    longest = λ kind x r e is. let l = longest kind x r (split_at n bytes ∙ e) is in omega (arith, l, length_take n bytes le);
    no_fault = subst HasNoFault (split_at n bytes) sound;
  };
}

-- ---- no fault, by the lead

pub no_fault : (b : ℕ) (bs : List ℕ) (l : Lead) → lead_of b ≡ l → may_open l ≡ false → may_name l ≡ false → may_number l ≡ false → HasNoFault (b ∷ bs)
no_fault b bs l e o n m = record {
  no_open_comment = λ h. clash (may_open l) (ap may_open (sym e) ∙ open_lead b bs h) o;
  no_bad_name = λ h. clash (may_name l) (ap may_name (sym e) ∙ name_lead b bs h) n;
  no_bad_number = λ h. clash (may_number l) (ap may_number (sym e) ∙ number_lead b bs h) m;
}

-- ---- marks

marks_short : list_all (λ row. leb (length row.1) 2) marks ≡ true
marks_short = refl

pub mark_short : (k : TokenKind) (text : List ℕ) → Contains marks (k, text) → length text ≤ 2
mark_short k text h = leb-true (length text) 2 (each_row (λ row. leb (length row.1) 2) marks (k, text) marks_short h)

-- where no other text than a mark's may stand, the longest mark stands, or none
abbrev pub OnlyMarks : List ℕ → Type 0
OnlyMarks bytes = (k : TokenKind) (text rest : List ℕ) → bytes ≡ text ++ rest → IsText k text → Contains marks (k, text)

one_byte : (b : ℕ) (bs : List ℕ) (o : Option TokenKind) → OnlyMarks (b ∷ bs) → HasNoFault (b ∷ bs) → is_white b ≡ false → ((k : TokenKind) (text rest : List ℕ) → b ∷ bs ≡ text ++ rest → IsText k text → length text ≤ 1)
    → short_mark b ≡ o → Stands (b ∷ bs) (long_or None o)
unfolding short_mark
one_byte b bs (Some k) only sound white most e = stands k 1 (b ∷ bs) (omega arith) (omega arith) (texts.mark (found_there marks (b ∷ []) k e)) (λ kind x r at is. most kind x r at is) sound
one_byte b bs None only sound white most e = record {
  not_white = rw white refl;
  no_fault = sound;
  none = λ kind x r at is. by kind x r at is (most kind x r at is);
}
  where
    by : (kind : TokenKind) (x r : List ℕ) → b ∷ bs ≡ x ++ r → IsText kind x → length x ≤ 1 → ⊥
    by kind [] r at is le = text_some kind is
    by kind (y ∷ []) r at is le =
        let here : b ≡ y = cons_first b y bs r at in
        found_missing marks (b ∷ []) kind e (subst (λ (z : ℕ). Contains marks (kind, z ∷ [])) (sym here) (only kind (y ∷ []) r at is))
    by kind (y ∷ z ∷ x) r at is le = omega (arith, le)

pub mark_stands : (b : ℕ) (bs : List ℕ) → OnlyMarks (b ∷ bs) → HasNoFault (b ∷ bs) → is_white b ≡ false → Stands (b ∷ bs) (mark_at b bs)
unfolding long_mark
mark_stands b [] only sound white = one_byte b [] (short_mark b) only sound white (λ k x r at is. by x r at) refl
  where
    by : (x r : List ℕ) → b ∷ [] ≡ x ++ r → length x ≤ 1
    by x r at = omega (arith, ap length at, length-append x r)
mark_stands b (c ∷ cs) only sound white = by (long_mark b c) refl
  where
    short_case : (k : TokenKind) (x r : List ℕ) → found_in marks (b ∷ c ∷ []) ≡ None → b ∷ c ∷ cs ≡ x ++ r → IsText k x → length x ≤ 2 → length x ≤ 1
    short_case k [] r e at is le = omega arith
    short_case k (y ∷ []) r e at is le = omega arith
    short_case k (y ∷ z ∷ []) r e at is le =
        let first : b ≡ y = cons_first b y (c ∷ cs) (z ∷ r) at in
        let second : c ≡ z = cons_first c z cs r (cons_rest b y (c ∷ cs) (z ∷ r) at) in
        let both_are : y ∷ z ∷ [] ≡ b ∷ c ∷ [] = ap (λ (u : ℕ). u ∷ z ∷ []) (sym first) ∙ ap (λ (u : ℕ). b ∷ u ∷ []) (sym second) in
        absurd (found_missing marks (b ∷ c ∷ []) k e (subst (λ (t : List ℕ). Contains marks (k, t)) both_are (only k (y ∷ z ∷ []) r at is)))
    short_case k (y ∷ z ∷ w ∷ x) r e at is le = absurd (omega (arith, le))

    by : (o : Option TokenKind) → long_mark b c ≡ o → Stands (b ∷ c ∷ cs) (long_or o (short_mark b))
    by (Some k) e = stands k 2 (b ∷ c ∷ cs) (omega arith) (omega arith) (texts.mark (found_there marks (b ∷ c ∷ []) k e)) (λ kind x r at is. mark_short kind x (only kind x r at is)) sound
    by None e = one_byte b (c ∷ cs) (short_mark b) only sound white (λ k x r at is. short_case k x r e at is (mark_short k x (only k x r at is))) refl
