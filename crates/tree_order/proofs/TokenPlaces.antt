-- The tokens of a cut stand one behind the other, and so do the lexemes that a word has of them. A
-- comment is apart from a node, or within it.
use Rattle.std.proofs.Common.{◌≡◌, ℕ, zero, suc, ◌<◌, ◌≤◌, Bool, true, false, cond, not, ◌||◌}
use Rattle.std.proofs.Common.{List, [], ◌∷◌, filter, refl, sym, ap, ◌∙◌, arith}
use Rattle.std.proofs.Common.{inl, inr, ◌⊎◌}
use Rattle.std.specs.Prelude.{Contains}
use Rattle.token_grammar.specs.declared.token.Token.{Token}
use Rattle.token_grammar.specs.declared.token.TokenKind.TheVariants as kind
use Rattle.token_grammar.specs.Texts.{Lexeme, lexeme, lexemes}
use Rattle.token_grammar.specs.Kinds.{same_kind}
use Rattle.token_grammar.specs.Kept.{is_kept}
use Rattle.token_grammar.specs.Grammar.{Word, lexemes_of}
use Rattle.st_lexer.specs.Cut.{CutTo}
use Rattle.st_units.specs.SourceTrees.{is_comment}
use Rattle.st_tree.specs.declared.node.Node.{Node}
use Rattle.tree_order.proofs.Lists.{Among}
use Rattle.tree_order.proofs.NodesOfWords.{Spans, StartsAt, EndsAt}

-- The tokens stand one behind the other, within these bounds, each with a byte or more.
abbrev pub TokensSpan : ℕ → List Token → ℕ → Type 0
TokensSpan lo [] hi = lo ≤ hi
TokensSpan lo (t ∷ ts) hi = (lo ≤ t.start) × (t.start < t.end) × TokensSpan t.end ts hi

-- ---- tokens of a cut

pub tokens_span : (ts : List Token) (at : ℕ) (bytes : List ℕ) (place : ℕ) (rest : List ℕ) →
    CutTo at bytes ts place rest → ((t : Token) → Contains ts t → t.start < t.end) →
    TokensSpan at ts place
tokens_span [] at bytes place rest c some = omega (arith, c.place_is)
tokens_span (t ∷ ts) at bytes place rest (more, n, c) some = (
  omega (arith, n.blank.place_is),
  some t (zero, omega arith, refl),
  tokens_span ts t.end more
      place rest c (λ u there. some u (suc there.0, omega (arith, there.1), there.2)),
)

pub span_rises : (lo : ℕ) (ts : List Token) (hi : ℕ) → TokensSpan lo ts hi → lo ≤ hi
span_rises lo [] hi s = s
span_rises lo (t ∷ ts) hi s = omega (arith, s.0, s.1, span_rises t.end ts hi s.2)

span_from : (lo low : ℕ) (ts : List Token) (hi : ℕ) → low ≤ lo → TokensSpan lo ts hi →
    TokensSpan low ts hi
span_from lo low [] hi less s = omega (arith, s)
span_from lo low (t ∷ ts) hi less s = (omega (arith, s.0), s.1, s.2)

filter_one : (lo : ℕ) (t : Token) (kept : List Token) (hi : ℕ) → lo ≤ t.start → t.start < t.end →
    TokensSpan t.end kept hi → (b : Bool) → TokensSpan lo (cond b (t ∷ kept) kept) hi
filter_one lo t kept hi from some rest true = (from, some, rest)
filter_one lo t kept hi from some rest false =
    span_from t.end lo kept hi (omega (arith, from, some)) rest

pub filter_span : (test : Token → Bool) (lo : ℕ) (ts : List Token) (hi : ℕ) → TokensSpan lo ts hi →
    TokensSpan lo (filter test ts) hi
filter_span test lo [] hi s = s
filter_span test lo (t ∷ ts) hi s =
    filter_one lo t (filter test ts) hi s.0 s.1 (filter_span test t.end ts hi s.2) (test t)

among_one : (test : Token → Bool) (x t : Token) (kept : List Token) (b : Bool) → test t ≡ b →
    Among x (cond b (t ∷ kept) kept) → ((x ≡ t) × (test x ≡ true)) ⊎ Among x kept
among_one test x t kept true is (inl same) = inl (same, ap test same ∙ is)
among_one test x t kept true is (inr h) = inr h
among_one test x t kept false is h = inr h

pub among_filter : (test : Token → Bool) (x : Token) (ts : List Token) → Among x (filter test ts) →
    Among x ts × (test x ≡ true)
among_filter test x [] h = absurd h
among_filter test x (t ∷ ts) h = elim (among_one test x t (filter test ts) (test t) refl h) [
  | inl here ↦ (inl here.0, here.1)
  | inr later ↦ let r = among_filter test x ts later in (inr r.0, r.1)
]

-- ---- two tokens

abbrev pub TokensApart : Token → Token → Type 0
TokensApart a b = (a.end ≤ b.start) ⊎ (b.end ≤ a.start)

behind : (lo : ℕ) (ts : List Token) (hi : ℕ) (x : Token) → TokensSpan lo ts hi → Among x ts →
    lo ≤ x.start
behind lo [] hi x s h = absurd h
behind lo (t ∷ ts) hi x s (inl same) = omega (arith, s.0, ap (λ (u : Token). u.start) same)
behind lo (t ∷ ts) hi x s (inr h) = omega (arith, s.0, s.1, behind t.end ts hi x s.2 h)

pub has_byte : (lo : ℕ) (ts : List Token) (hi : ℕ) (x : Token) → TokensSpan lo ts hi → Among x ts →
    x.start < x.end
has_byte lo [] hi x s h = absurd h
has_byte lo (t ∷ ts) hi x s (inl same) =
    omega (arith, s.1, ap (λ (u : Token). u.start) same, ap (λ (u : Token). u.end) same)
has_byte lo (t ∷ ts) hi x s (inr h) = has_byte t.end ts hi x s.2 h

two_apart : (lo : ℕ) (ts : List Token) (hi : ℕ) (a b : Token) → TokensSpan lo ts hi → Among a ts →
    Among b ts → (a ≡ b) ⊎ TokensApart a b
two_apart lo [] hi a b s h k = absurd h
two_apart lo (t ∷ ts) hi a b s (inl same) (inl other) = inl (same ∙ sym other)
two_apart lo (t ∷ ts) hi a b s (inl same) (inr k) =
    inr (inl (omega (arith, behind t.end ts hi b s.2 k, ap (λ (u : Token). u.end) same)))
two_apart lo (t ∷ ts) hi a b s (inr h) (inl other) =
    inr (inr (omega (arith, behind t.end ts hi a s.2 h, ap (λ (u : Token). u.end) other)))
two_apart lo (t ∷ ts) hi a b s (inr h) (inr k) = two_apart t.end ts hi a b s.2 h k

not_both : (b c : Bool) → b ≡ true → not (b || c) ≡ true → ⊥
not_both true c is kept = absurd cc
not_both false c is kept = absurd cc

-- a token that the grammar reads and a comment
pub kept_apart : (lo : ℕ) (ts : List Token) (hi : ℕ) (a b : Token) → TokensSpan lo ts hi →
    Among a (filter is_kept ts) → Among b (filter is_comment ts) → TokensApart a b
kept_apart lo ts hi a b s h k =
    let one = among_filter is_kept a ts h in
    let other = among_filter is_comment b ts k in
    elim (two_apart lo ts hi a b s one.0 other.0) [
      | inl same ↦
          absurd (not_both (same_kind a.kind kind.Comment) (same_kind a.kind kind.Pragma)
          (ap is_comment same ∙ other.1) one.1)
      | inr apart ↦ apart
    ]

-- ---- the lexemes of a word

pub same_first : (x y : Lexeme) (xs ys : List Lexeme) → x ∷ xs ≡ y ∷ ys → x ≡ y
same_first x y xs ys e = ap first e
  where
    first : List Lexeme → Lexeme
    first [] = x
    first (z ∷ zs) = z

pub same_rest : (x y : Lexeme) (xs ys : List Lexeme) → x ∷ xs ≡ y ∷ ys → xs ≡ ys
same_rest x y xs ys e = ap rest e
  where
    rest : List Lexeme → List Lexeme
    rest [] = []
    rest (z ∷ zs) = zs

pub word_spans : (text : List ℕ) (lo : ℕ) (w : Word) (ts : List Token) (hi : ℕ) →
    lexemes_of w ≡ lexemes text ts → TokensSpan lo ts hi → Spans lo w hi
word_spans text lo [] [] hi e s = s
word_spans text lo [] (t ∷ ts) hi e s = absurd cc
word_spans text lo (p ∷ w) [] hi e s = absurd cc
word_spans text lo (p ∷ w) (t ∷ ts) hi e s =
    let one : p.0 ≡ lexeme text t = same_first p.0 (lexeme text t) (lexemes_of w) (lexemes text ts)
    e in
    let start : p.0.start ≡ t.start = ap (λ (l : Lexeme). l.start) one in
    let end : p.0.end ≡ t.end = ap (λ (l : Lexeme). l.end) one in (
      omega (arith, s.0, start),
      omega (arith, s.1, start, end),
      rw end (word_spans text t.end w ts hi (same_rest p.0 (lexeme text t) (lexemes_of w)
          (lexemes text ts) e) s.2),
    )

pub starts_token : (text : List ℕ) (w : Word) (ts : List Token) (place : ℕ) →
    lexemes_of w ≡ lexemes text ts → StartsAt w place → (t : Token) × Among t ts × (t.start ≡ place)
starts_token text [] ts place e h = absurd h
starts_token text (p ∷ w) [] place e h = absurd cc
starts_token text (p ∷ w) (t ∷ ts) place e (inl is) = (
  t,
  inl refl,
  sym (ap (λ (l : Lexeme). l.start) (same_first p.0 (lexeme text t) (lexemes_of w)
      (lexemes text ts) e)) ∙ is,
)
starts_token text (p ∷ w) (t ∷ ts) place e (inr h) =
    let r = starts_token text w ts place (same_rest p.0 (lexeme text t) (lexemes_of w)
    (lexemes text ts) e) h in (r.0, inr r.1, r.2)

pub ends_token : (text : List ℕ) (w : Word) (ts : List Token) (place : ℕ) →
    lexemes_of w ≡ lexemes text ts → EndsAt w place → (t : Token) × Among t ts × (t.end ≡ place)
ends_token text [] ts place e h = absurd h
ends_token text (p ∷ w) [] place e h = absurd cc
ends_token text (p ∷ w) (t ∷ ts) place e (inl is) = (
  t,
  inl refl,
  sym (ap (λ (l : Lexeme). l.end) (same_first p.0 (lexeme text t) (lexemes_of w)
      (lexemes text ts) e)) ∙ is,
)
ends_token text (p ∷ w) (t ∷ ts) place e (inr h) =
    let r = ends_token text w ts place (same_rest p.0 (lexeme text t) (lexemes_of w)
    (lexemes text ts) e) h in (r.0, inr r.1, r.2)

-- ---- a node and a comment

-- they are apart, or the comment is within the node behind its first byte
abbrev pub IsBeside : Node → ℕ → ℕ → Type 0
IsBeside n start end = (n.end ≤ start) ⊎ (end ≤ n.start) ⊎ ((n.start < start) × (end ≤ n.end))

pub beside : (text : List ℕ) (lo : ℕ) (ts : List Token) (hi : ℕ) (w : Word) (n : Node) (c : Token) →
    TokensSpan lo ts hi → lexemes_of w ≡ lexemes text (filter is_kept ts)
    → StartsAt w n.start → EndsAt w n.end → Among c (filter is_comment ts) →
    IsBeside n c.start c.end
beside text lo ts hi w n c s words from to comment =
    let first = starts_token text w (filter is_kept ts) n.start words from in
    let last = ends_token text w (filter is_kept ts) n.end words to in
    let first_byte : first.0.start < first.0.end = has_byte lo ts hi first.0 s
    (among_filter is_kept first.0 ts first.1).0 in
    let last_byte : last.0.start < last.0.end = has_byte lo ts hi last.0 s
    (among_filter is_kept last.0 ts last.1).0 in
    elim (kept_apart lo ts hi first.0 c s first.1 comment) [
      | inr before ↦ inr (inl (omega (arith, before, first.2)))
      | inl after ↦ elim (kept_apart lo ts hi last.0 c s last.1 comment) [
        | inl behind ↦ inl (omega (arith, behind, last.2))
        | inr within ↦
            inr (inr (
              omega (arith, after, first.2, first_byte),
              omega (arith, within, last.2, last_byte),
            ))
      ]
    ]
