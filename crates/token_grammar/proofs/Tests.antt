-- Rules that begin with a lexeme that passes a test, which no list of kinds says.
use Rattle.std.proofs.Common.{◌≡◌, ℕ, Bool, true, false, List, [], ◌∷◌, ◌++◌, refl, sym, ap, ◌∙◌, inl, inr, ◌+◌}
use Rattle.std.proofs.lemmas.List.{append-nil}
use Rattle.token_grammar.specs.Texts.{Lexeme}
use Rattle.token_grammar.specs.steps.Parsers.{Parser, pure, choose, sees_that}
use Rattle.token_grammar.specs.Grammar.{Word, Rule, lexemes_of, ◌>>=◌, ◌or◌, give, token_as, scoped, deeper, node}
use Rattle.token_grammar.proofs.Laws.{input, Held, Some_, Exact, lexemes_of-two}
use Rattle.token_grammar.proofs.OneToken.{never}
use Rattle.token_grammar.proofs.Steps.{IsLong, IsOfOne, exact_give, exact_choose}
use Rattle.token_grammar.proofs.Starts.{held_out, refuses_end}

-- each word of the rule begins with a lexeme that passes the test
pub record StartsThat {A : Type 0} (L : Rule A) (test : Lexeme → Bool) : Type 0 where
  pub sees : (d : ℕ) (w : Word) (x : A) (e : ℕ) → L d w x e → (rest : List Lexeme)
      → sees_that test (lexemes_of w ++ rest) ≡ true

-- each lexeme that passes the test begins a word of the rule
pub record OpensThat {A : Type 0} (L : Rule A) (test : Lexeme → Bool) : Type 0 where
  pub word : (d : ℕ) (t : Lexeme) → test t ≡ true
      → (at : ℕ) × (w : Word) × (x : A) × (e : ℕ) × L d ((t, at) ∷ w) x e

-- ---- with what it begins

pub starts_that_token : (test : Lexeme → Bool) (own rise : ℕ)
    → StartsThat (token_as test own rise) test
starts_that_token test own rise = record { sees = λ d w t e (eq, is, after) rest. rw (eq, is) refl }

pub starts_that_bind : {A B : Type 0} {L : Rule A} {M : A → Rule B} {test : Lexeme → Bool}
    → StartsThat L test → StartsThat (L >>= M) test
starts_that_bind h = record {
  sees = λ d w y e (u, v, x, m, eq, l, r) rest.
      rw (eq, lexemes_of-two u v rest) (h.sees d u x m l (lexemes_of v ++ rest));
}

pub starts_that_scoped : {A : Type 0} {L : Rule A} {test : Lexeme → Bool} → StartsThat L test
    → StartsThat (scoped L) test
starts_that_scoped h = record { sees = λ d w x e (m, l, same) rest. h.sees d w x m l rest }

pub starts_that_deeper : {A : Type 0} {L : Rule A} {test : Lexeme → Bool} → StartsThat L test
    → StartsThat (deeper L) test
starts_that_deeper h = record { sees = λ d w x e l rest. h.sees (d + 1) w x e l rest }

pub starts_that_node : {A B : Type 0} (make : ℕ → ℕ → A → B) {L : Rule A} {test : Lexeme → Bool}
    → StartsThat L test → StartsThat (node make L) test
starts_that_node make h = record { sees = λ d w y e (x, l, is) rest. h.sees d w x e l rest }

-- ---- what begins it

pub opens_that_token : (test : Lexeme → Bool) (own rise : ℕ)
    → OpensThat (token_as test own rise) test
opens_that_token test own rise =
    record { word = λ d t e. (d + own, [], t, d + rise, (refl, e, refl)) }

pub opens_that_bind : {A B : Type 0} {L : Rule A} {M : A → Rule B} {test : Lexeme → Bool}
    → OpensThat L test → ((x : A) (d : ℕ) → Some_ (M x) d) → OpensThat (L >>= M) test
opens_that_bind {A} {B} {L} {M} {test} h some = record {
  word = λ d t e. let (at, w, x, m, l) =
      h.word d t e in let s = some x m in
      (at, w ++ s.word, s.value, s.depth, ((t, at) ∷ w, s.word, x, m, refl, l, s.spelled));
}

pub opens_that_scoped : {A : Type 0} {L : Rule A} {test : Lexeme → Bool} → OpensThat L test
    → OpensThat (scoped L) test
opens_that_scoped h =
    record { word = λ d t e. let (at, w, x, m, l) = h.word d t e in (at, w, x, d, (m, l, refl)) }

pub opens_that_deeper : {A : Type 0} {L : Rule A} {test : Lexeme → Bool} → OpensThat L test
    → OpensThat (deeper L) test
opens_that_deeper h = record { word = λ d t e. h.word (d + 1) t e }

pub opens_that_node : {A B : Type 0} (make : ℕ → ℕ → A → B) {L : Rule A} {test : Lexeme → Bool}
    → OpensThat L test → OpensThat (node make L) test
opens_that_node make h = record {
  word = λ d t e. let (at, w, x, m, l) = h.word d t e in
      (at, w, make _ _ x, m, (x, l, refl));
}

pub held_that : {A : Type 0} {V : ℕ → Type 0} {p : Parser A} {L : Rule A} {more : List Lexeme
    → Bool} {test : Lexeme
    → Bool} → Exact V p L more → more [] ≡ false → OpensThat L test → (last d : ℕ) → V d
    → (t : Lexeme) (r : List Lexeme) → test t ≡ true → Held t r (p (input last d (t ∷ r)))
held_that {p} h open_end opens last d v t r e =
    let (at, w, x, m, l) = opens.word d t e in
    held_out t r (lexemes_of w) _ (p (input last d (t ∷ lexemes_of w)))
    (h.local last d v [] t r (lexemes_of w)) ((t, at) ∷ w) last x m
    (ap (λ (ts : List Lexeme). p (input last d ts)) (sym (append-nil (t ∷ lexemes_of w)))
    ∙ h.complete d ((t, at) ∷ w) x m v l last [] open_end) refl

-- ---- either, by a test of the next lexeme

pub one_that : (test : Lexeme → Bool) → IsOfOne (sees_that test)
one_that test t r1 r2 = refl

-- the second is of one lexeme or more, and begins with none that passes the test
pub choose_that : {A : Type 0} {V : ℕ → Type 0} {p q : Parser A} {L M : Rule A}
    {more1 more2 more3 : List Lexeme → Bool} (test : Lexeme → Bool)
    → Exact V p L more1 → Exact V q M more2 → StartsThat L test → IsLong M
    → ((d : ℕ) (w : Word) (x : A) (e : ℕ) → M d w x e → (rest : List Lexeme)
    → sees_that test (lexemes_of w ++ rest) ≡ false)
    → ((rest : List Lexeme) → more3 rest ≡ false → (more1 rest ≡ false) × (more2 rest ≡ false))
    → Exact V (choose (sees_that test) p q) (L or M) more3
choose_that {more3} test h j starts long other fewer = exact_choose (sees_that test) h j
    (one_that test) refl (λ last d v t r e. inl (refuses_end j long last d v)) more3 fewer
    (λ d w x e l rest _. starts.sees d w x e l rest)
    (λ d w x e l rest _. other d w x e l rest)

-- a part that may be left out
pub maybe_that : {A : Type 0} {V : ℕ → Type 0} {p : Parser A} {L : Rule A}
    {more1 more3 : List Lexeme → Bool} (test : Lexeme → Bool) (a : A)
    → Exact V p L more1 → StartsThat L test → OpensThat L test → more1 [] ≡ false
    → ((rest : List Lexeme) → more3 rest ≡ false → (sees_that test rest ≡ false)
    × (more1 rest ≡ false))
    → Exact V (choose (sees_that test) p (pure a)) (L or give a) more3
maybe_that {more3} test a h starts opens open_end fewer = exact_choose {more2 = never}
    (sees_that test) h (exact_give a) (one_that test) refl
    (λ last d v t r e. inr (held_that h open_end opens last d v t r e)) more3
    (λ rest e. ((fewer rest e).1, refl))
    (λ d w x e l rest _. starts.sees d w x e l rest)
    (λ d w x e (empty, is, same) rest ends_here. rw empty (fewer rest ends_here).0)
