-- Rules that may spell nothing, between others.
use Rattle.std.proofs.Common.{◌≡◌, ℕ, zero, suc, true, false, List, [], ◌++◌, refl, inl, inr, ◌⊎◌}
use Rattle.token_grammar.specs.declared.token.TokenKind.{TokenKind}
use Rattle.token_grammar.specs.Texts.{Lexeme}
use Rattle.token_grammar.specs.steps.Parsers.{Parser, and_then}
use Rattle.token_grammar.specs.Grammar.{Word, Rule, lexemes_of, ◌>>=◌, ◌or◌, give, times, many}
use Rattle.token_grammar.proofs.Laws.{Exact, lexemes_of-two}
use Rattle.token_grammar.proofs.Bind.{bind}
use Rattle.token_grammar.proofs.Steps.{exact_same}
use Rattle.token_grammar.proofs.Starts.{sees_any, disjoint, Starts, sees_other, any_left, any_right, fewer_left, fewer_right}
use Rattle.token_grammar.proofs.Forms.{Carries}

-- a word of the rule has no lexeme, or begins with one of these kinds
pub record Loose {A : Type 0} (L : Rule A) (ks : List TokenKind) : Type 0 where
  pub sees : (d : ℕ) (w : Word) (x : A) (e : ℕ) → L d w x e
      → (w ≡ []) ⊎ ((rest : List Lexeme) → sees_any ks (lexemes_of w ++ rest) ≡ true)

pub loose_starts : {A : Type 0} {L : Rule A} {ks : List TokenKind} → Starts L ks → Loose L ks
loose_starts h = record { sees = λ d w x e l. inr (h.sees d w x e l) }

pub loose_give : {A : Type 0} (a : A) → Loose (give a) []
loose_give a = record { sees = λ d w x e l. inl l.0 }

pub loose_optional : {A : Type 0} {L : Rule A} {ks : List TokenKind} (a : A) → Starts L ks
    → Loose (L or give a) ks
loose_optional a h = record {
  sees = λ d w x e either. elim either [
    | inl l ↦ inr (h.sees d w x e l)
    | inr l ↦ inl l.0
  ];
}

pub loose_or : {A : Type 0} {L M : Rule A} {js ks : List TokenKind} → Starts L js → Loose M ks
    → Loose (L or M) (js ++ ks)
loose_or {js} {ks} h k = record {
  sees = λ d w x e either. elim either [
    | inl l ↦ inr (λ rest. any_left js ks (lexemes_of w ++ rest) (h.sees d w x e l rest))
    | inr l ↦ elim (k.sees d w x e l) [
      | inl empty ↦ inl empty
      | inr seen ↦ inr
          (λ rest. any_right js ks (lexemes_of w ++ rest) (seen rest))
    ]
  ];
}

loose_times : {A : Type 0} {rule : A → Rule A} {ks : List TokenKind}
    → ((a : A) → Starts (rule a) ks) → (n : ℕ) (a : A) (d : ℕ) (w : Word) (x : A) (e : ℕ)
    → times rule n a d w x e
    → (w ≡ []) ⊎ ((rest : List Lexeme) → sees_any ks (lexemes_of w ++ rest) ≡ true)
loose_times h zero a d w x e (empty, is, same) = inl empty
loose_times h (suc n) a d w x e (u, v, b, m, eq, l, r) =
    inr (λ rest. rw (eq, lexemes_of-two u v rest) ((h a).sees d u b m l (lexemes_of v ++ rest)))

pub loose_many : {A : Type 0} {rule : A → Rule A} {ks : List TokenKind}
    → ((a : A) → Starts (rule a) ks) → (a : A) → Loose (many rule a) ks
loose_many h a = record { sees = λ d w x e (n, l). loose_times h n a d w x e l }

-- ---- what follows

then_starts : (js ks : List TokenKind) (u v : Word)
    → (u ≡ []) ⊎ ((rest : List Lexeme) → sees_any js (lexemes_of u ++ rest) ≡ true)
    → ((rest : List Lexeme) → sees_any ks (lexemes_of v ++ rest) ≡ true)
    → (rest : List Lexeme) → sees_any (js ++ ks) (lexemes_of (u ++ v) ++ rest) ≡ true
then_starts js ks u v (inl empty) next rest = any_right js ks _ (rw empty (next rest))
then_starts js ks u v (inr seen) next rest =
    any_left js ks _ (rw (lexemes_of-two u v rest) (seen (lexemes_of v ++ rest)))

pub loose_then : {A B : Type 0} {L : Rule A} {M : A → Rule B} {js ks : List TokenKind} → Loose L js
    → ((x : A) → Starts (M x) ks) → Starts (L >>= M) (js ++ ks)
loose_then {js} {ks} h next = record {
  sees = λ d w y e (u, v, x, m, eq, l, r) rest. rw eq
      (then_starts js ks u v (h.sees d u x m l) ((next x).sees m v y e r) rest);
}

then_loose : (js ks : List TokenKind) (u v : Word)
    → (u ≡ []) ⊎ ((rest : List Lexeme) → sees_any js (lexemes_of u ++ rest) ≡ true)
    → (v ≡ []) ⊎ ((rest : List Lexeme) → sees_any ks (lexemes_of v ++ rest) ≡ true)
    → (u ++ v ≡ [])
    ⊎ ((rest : List Lexeme) → sees_any (js ++ ks) (lexemes_of (u ++ v) ++ rest) ≡ true)
then_loose js ks u v (inl empty) (inl none) = inl (rw (empty, none) refl)
then_loose js ks u v (inl empty) (inr next) = inr (λ rest. any_right js ks _ (rw empty (next rest)))
then_loose js ks u v (inr seen) next =
    inr (λ rest. any_left js ks _ (rw (lexemes_of-two u v rest) (seen (lexemes_of v ++ rest))))

pub loose_bind : {A B : Type 0} {L : Rule A} {M : A → Rule B} {js ks : List TokenKind} → Loose L js
    → ((x : A) → Loose (M x) ks) → Loose (L >>= M) (js ++ ks)
loose_bind {js} {ks} h next = record {
  sees = λ d w y e (u, v, x, m, eq, l, r). rw eq
      (then_loose js ks u v (h.sees d u x m l) ((next x).sees m v y e r));
}

avoids_by : (ks ends : List TokenKind) (v : Word)
    → (v ≡ []) ⊎ ((rest : List Lexeme) → sees_any ks (lexemes_of v ++ rest) ≡ true)
    → disjoint ks ends ≡ true → (rest : List Lexeme) → sees_any ends rest ≡ false
    → sees_any ends (lexemes_of v ++ rest) ≡ false
avoids_by ks ends v (inl empty) apart rest none = rw empty none
avoids_by ks ends v (inr seen) apart rest none = sees_other ks ends _ apart (seen rest)

-- a rule, and what follows it, which may be nothing
pub bind_loose : {A B : Type 0} {V W : ℕ → Type 0} {p : Parser A} {f : A → Parser B} {L : Rule A}
    {M : A → Rule B} {ks : List TokenKind} (ends es : List TokenKind)
    → Exact V p L (sees_any ends) → ((x : A) → Exact W (f x) (M x) (sees_any es)) → Carries V W L
    → ((x : A) → Loose (M x) ks) → disjoint ks ends ≡ true
    → Exact V (λ i. and_then (p i) f) (L >>= M) (sees_any (ends ++ es))
bind_loose {V} {W} {p} {f} {L} {M} {ks} ends es first next carry loose apart =
    bind first (λ x. exact_same (next x) (λ d v. v) (λ d w y e l. l) (λ d w y e l. l)
    (fewer_right ends es)) carry (λ x m v y e r rest none. avoids_by ks ends v
    ((loose x).sees m v y e r) apart rest (fewer_left ends es rest none))
