-- The tokens of a cut and their texts: each has the text of its kind, and numbers, typed numbers,
-- times and addresses are what they are called.
use Rattle.std.proofs.Common.{◌≡◌, ℕ, zero, suc, ◌-◌, Bool, true, false, not, List, [], ◌∷◌, ◌++◌, length, map, take, drop, refl, sym, ap, subst, ◌∙◌, arith}
use Rattle.std.specs.List.{list_all, Contains}
use Rattle.iec_tables.specs.Letters.{raised}
use Rattle.token_grammar.specs.Texts.{lexeme}
use Rattle.token_grammar.specs.declared.token.TokenKind.{TokenKind}
use Rattle.token_grammar.specs.declared.token.TokenKind.TheVariants as kind
use Rattle.token_grammar.specs.declared.token.Token.{Token}
use Rattle.st_lexer.specs.Texts as texts
use Rattle.st_lexer.specs.Texts.{IsNumber, IsTyped, IsAddress, IsText, keywords, marks}
use Rattle.st_lexer.specs.Times.{IsTime}
use Rattle.st_lexer.specs.Cut.{IsNext, CutTo, IsCut, mark_length}
use Rattle.st_lexer.specs.ValueLaws.{TokensHaveTexts, TokensHaveValues, HaveOneValue}
use Rattle.st_lexer.proofs.Runs.{take_front, drop_front}
use Rattle.st_lexer.proofs.Leads.{each_row}
use Rattle.st_lexer.proofs.Durations.{drop_add}

-- ---- texts

-- where a token stands, and what stands behind it
record Stood (text : List ℕ) (t : Token) (more : List ℕ) : Type 0 where
  pub is : IsText t.kind (lexeme text t).bytes
  pub behind : drop t.end text ≡ more

stood : (at : ℕ) (bytes : List ℕ) (t : Token) (more text : List ℕ) → IsNext at bytes t more
    → drop at text ≡ bytes → Stood text t more
stood at bytes t more text n e =
    let b = n.blank in
    let here : drop t.start text ≡ n.text ++ more =
    ap (λ (k : ℕ). drop k text) b.place_is ∙ drop_add at (length b.white) text
    ∙ ap (drop (length b.white)) (e ∙ b.bytes_are) ∙ drop_front b.white (n.text ++ more) in
    let count : t.end - t.start ≡ length n.text = omega (arith, n.end) in
    let whole : (lexeme text t).bytes ≡ n.text =
    ap (λ (k : ℕ). take k (drop t.start text)) count ∙ ap (take (length n.text)) here
    ∙ take_front n.text more in
    record {
      is = subst (λ (x : List ℕ). IsText t.kind x) (sym whole) n.token.text_is;
      behind = ap (λ (k : ℕ). drop k text) n.end ∙ drop_add t.start (length n.text) text
          ∙ ap (drop (length n.text)) here ∙ drop_front n.text more;
    }

tokens_stand : (ts : List Token) (at : ℕ) (bytes : List ℕ) (place : ℕ) (rest text : List ℕ)
    → CutTo at bytes ts place rest → drop at text ≡ bytes
    → (t : Token) → Contains ts t → IsText t.kind (lexeme text t).bytes
tokens_stand [] at bytes place rest text c e t (i, lt, is) = absurd (omega (arith, lt))
tokens_stand (u ∷ us) at bytes place rest text (more, n, c) e t (zero, lt, is) =
    subst (λ (x : Token). IsText x.kind (lexeme text x).bytes) is
    (stood at bytes u more text n e).is
tokens_stand (u ∷ us) at bytes place rest text (more, n, c) e t (suc i, lt, is) =
    tokens_stand us u.end more place rest text c (stood at bytes u more text n e).behind t
    (i, omega (arith, lt), is)

pub tokens_have_texts : TokensHaveTexts
tokens_have_texts text tokens cut t there =
    tokens_stand tokens (mark_length text) (drop (mark_length text) text)
    (length text) [] text cut.cut refl t there

-- ---- kinds

-- a kind whose texts have values
valued : TokenKind → Bool
valued kind.Number = true
valued kind.TypedNumber = true
valued kind.Duration = true
valued kind.Address = true
valued _ = false

no_keyword_valued : list_all (λ row. not (valued row.0)) keywords ≡ true
unfolding valued
no_keyword_valued = refl

no_mark_valued : list_all (λ row. not (valued row.0)) marks ≡ true
unfolding valued
no_mark_valued = refl

not_true : (v : Bool) → not v ≡ true → v ≡ true → ⊥
not_true true a b = cc
not_true false a b = cc

no_keyword : (k : TokenKind) (t : List ℕ) → Contains keywords (k, t) → valued k ≡ true → ⊥
no_keyword k t h v =
    not_true (valued k) (each_row (λ row. not (valued row.0)) keywords (k, t) no_keyword_valued h) v

no_mark : (k : TokenKind) (t : List ℕ) → Contains marks (k, t) → valued k ≡ true → ⊥
no_mark k t h v =
    not_true (valued k) (each_row (λ row. not (valued row.0)) marks (k, t) no_mark_valued h) v

pub number_text : (text : List ℕ) → IsText kind.Number text → IsNumber text
unfolding valued
number_text text (texts.comment e x) = absurd cc
number_text text (texts.pragma e x) = absurd cc
number_text text (texts.name e x) = absurd cc
number_text text (texts.keyword h) = absurd (no_keyword kind.Number (map raised text) h refl)
number_text text (texts.number e x) = x
number_text text (texts.typed e x) = absurd cc
number_text text (texts.time e x) = absurd cc
number_text text (texts.address e x) = absurd cc
number_text text (texts.mark h) = absurd (no_mark kind.Number text h refl)

pub typed_text : (text : List ℕ) → IsText kind.TypedNumber text → IsTyped text
unfolding valued
typed_text text (texts.comment e x) = absurd cc
typed_text text (texts.pragma e x) = absurd cc
typed_text text (texts.name e x) = absurd cc
typed_text text (texts.keyword h) = absurd (no_keyword kind.TypedNumber (map raised text) h refl)
typed_text text (texts.number e x) = absurd cc
typed_text text (texts.typed e x) = x
typed_text text (texts.time e x) = absurd cc
typed_text text (texts.address e x) = absurd cc
typed_text text (texts.mark h) = absurd (no_mark kind.TypedNumber text h refl)

pub time_text : (text : List ℕ) → IsText kind.Duration text → IsTime text
unfolding valued
time_text text (texts.comment e x) = absurd cc
time_text text (texts.pragma e x) = absurd cc
time_text text (texts.name e x) = absurd cc
time_text text (texts.keyword h) = absurd (no_keyword kind.Duration (map raised text) h refl)
time_text text (texts.number e x) = absurd cc
time_text text (texts.typed e x) = absurd cc
time_text text (texts.time e x) = x
time_text text (texts.address e x) = absurd cc
time_text text (texts.mark h) = absurd (no_mark kind.Duration text h refl)

pub address_text : (text : List ℕ) → IsText kind.Address text → IsAddress text
unfolding valued
address_text text (texts.comment e x) = absurd cc
address_text text (texts.pragma e x) = absurd cc
address_text text (texts.name e x) = absurd cc
address_text text (texts.keyword h) = absurd (no_keyword kind.Address (map raised text) h refl)
address_text text (texts.number e x) = absurd cc
address_text text (texts.typed e x) = absurd cc
address_text text (texts.time e x) = absurd cc
address_text text (texts.address e x) = x
address_text text (texts.mark h) = absurd (no_mark kind.Address text h refl)

-- ---- values

-- where the text of a kind is one of these, and each of these has a value, so has each token of the
-- kind
pub tokens_have_values : {A : Type 0} (k : TokenKind) (IsOne : List ℕ → Type 0)
    (HasValue : List ℕ → A → Type 0) → ((text : List ℕ) → IsText k text → IsOne text)
    → HaveOneValue IsOne HasValue → TokensHaveValues k IsOne HasValue
tokens_have_values k IsOne HasValue text_of law =
    record {
      is = is;
      value = λ text tokens cut t there e. law.some (lexeme text t).bytes
          (is text tokens cut t there e);
    }
  where
    is : (text : List ℕ) (tokens : List Token) → IsCut text tokens → (t : Token) → Contains tokens t
        → t.kind ≡ k → IsOne (lexeme text t).bytes
    is text tokens cut t there e =
        text_of (lexeme text t).bytes
        (subst (λ (j : TokenKind). IsText j (lexeme text t).bytes) e
        (tokens_have_texts text tokens cut t there))
