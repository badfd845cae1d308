-- What is to be proved of a parser: which words it reads, where it stops, and that no later token
-- matters.
use Rattle.std.proofs.Common.{◌≡◌, ℕ, ◌<◌, ◌≤◌, Bool, false, cond, ltb, List, [], ◌∷◌, ◌++◌, length, Ok, Err, refl, ap, ◌∙◌, append_assoc, arith, inr, ◌⊎◌}
use Rattle.std.proofs.lemmas.List.{length-append}
use Rattle.token_grammar.specs.Texts.{Lexeme}
use Rattle.token_grammar.specs.declared.fault.ParseError.{ParseError}
use Rattle.token_grammar.specs.declared.fault.ParseError.TheVariants.{Memory, Grammar, TooDeep}
use Rattle.token_grammar.specs.steps.Parsers.{Input, Stop, Outcome, Parser}
use Rattle.token_grammar.specs.Grammar.{Word, Rule, lexemes_of, Within, max_depth}

abbrev pub input : ℕ → ℕ → List Lexeme → Input
input last d ts = record { rest = ts; last = last; depth = d }

-- the end of the last token
abbrev pub ends : ℕ → Word → ℕ
ends last [] = last
ends last (p ∷ w) = ends p.0.end w

pub record Read {A : Type 0} (L : Rule A) (i : Input) (x : A) (o : Input) : Type 0 where
  pub word : Word
  pub tokens : i.rest ≡ lexemes_of word ++ o.rest
  pub spelled : L i.depth word x o.depth
  pub within : Within word
  pub last : o.last ≡ ends i.last word

-- the next token stands too deep
abbrev pub Deep : Word → List Lexeme → Type 0
Deep [] ts = ⊥
Deep (p ∷ w) [] = ⊥
Deep (p ∷ w) (t ∷ ts) = (p.0 ≡ t) × (max_depth < p.1)

abbrev pub Reason : ParseError → Word → List Lexeme → Type 0
Reason Memory more ts = ⊥
Reason Grammar more ts = Unit {0}
Reason TooDeep more ts = Deep more ts

pub record Refused {A : Type 0} (L : Rule A) (i : Input) (s : Stop) : Type 0 where
  pub word : Word
  pub more : Word
  pub value : A
  pub depth : ℕ
  pub tokens : i.rest ≡ lexemes_of word ++ s.rest
  pub spelled : L i.depth (word ++ more) value depth
  pub within : Within word
  pub reason : Reason s.code more s.rest

abbrev pub Told : {A : Type 0} → Rule A → Input → Outcome A → Type 0
Told L i (Ok p) = Read L i p.0 p.1
Told L i (Err s) = Refused L i s

-- what a parser answers on a word that spells the value
abbrev pub gate : {A : Type 0} → Word → List Lexeme → ℕ → A → ℕ → Outcome A
gate [] rest last x e = Ok (x, input last e rest)
gate (p ∷ w) rest last x e = cond (ltb max_depth p.1)
    (Err (record { code = TooDeep; rest = p.0 ∷ (lexemes_of w ++ rest) })) (gate w rest p.0.end x e)

-- the same outcome, where the tokens from t on are others
abbrev pub Same : {A : Type 0} → Lexeme → List Lexeme → List Lexeme → Outcome A → Outcome A → Type 0
Same t r1 r2 (Ok p) out =
    (v : List Lexeme) → p.1.rest ≡ v ++ t ∷ r1 → out ≡ Ok (p.0, record p.1 { rest = v ++ t ∷ r2 })
Same t r1 r2 (Err s) out =
    (v : List Lexeme) → s.rest ≡ v ++ t ∷ r1 → out ≡ Err (record s { rest = v ++ t ∷ r2 })

-- the input ends there
abbrev pub at_end : Stop
at_end = record { code = Grammar; rest = [] }

-- the same outcome, or a refusal at the end, where the input ends before t
abbrev pub Cut : {A : Type 0} → Lexeme → List Lexeme → Outcome A → Outcome A → Type 0
Cut t r (Ok q) out =
    q.1.rest ≡ t ∷ r → (out ≡ Ok (q.0, record q.1 { rest = [] })) ⊎ (out ≡ Err at_end)
Cut t r (Err s) out = s.code ≡ Grammar → s.rest ≡ t ∷ r → out ≡ Err at_end

-- the outcome is no refusal at t, and isn't Ok with nothing taken
abbrev pub Held : {A : Type 0} → Lexeme → List Lexeme → Outcome A → Type 0
Held t r (Ok q) = q.1.rest ≡ t ∷ r → ⊥
Held t r (Err s) = s.code ≡ Grammar → s.rest ≡ t ∷ r → ⊥

pub record Some_ {A : Type 0} (L : Rule A) (d : ℕ) : Type 0 where
  pub word : Word
  pub value : A
  pub depth : ℕ
  pub spelled : L d word value depth

-- The parser reads the rule, at the depths of the first test. The second says where the rule may go
-- on.
pub record Exact {A : Type 0} (V : ℕ → Type 0) (p : Parser A) (L : Rule A) (more : List Lexeme
    → Bool) : Type 0 where
  pub told : (i : Input) → V i.depth → Told L i (p i)
  pub complete : (d : ℕ) (w : Word) (x : A) (e : ℕ) → V d → L d w x e
      → (last : ℕ) (rest : List Lexeme) → more rest ≡ false
      → p (input last d (lexemes_of w ++ rest)) ≡ gate w rest last x e
  pub local : (last d : ℕ) → V d → (u : List Lexeme) (t : Lexeme) (r1 r2 : List Lexeme)
      → Same t r1 r2 (p (input last d (u ++ t ∷ r1))) (p (input last d (u ++ t ∷ r2)))
  pub cut : (last d : ℕ) → V d → (u : List Lexeme) (t : Lexeme) (r : List Lexeme)
      → Cut t r (p (input last d (u ++ t ∷ r))) (p (input last d u))
  pub some : (d : ℕ) → Some_ L d
  pub rises : (d : ℕ) (w : Word) (x : A) (e : ℕ) → L d w x e → d ≤ e

-- ---- words

pub lexemes_of-append : (u v : Word) → lexemes_of (u ++ v) ≡ lexemes_of u ++ lexemes_of v
lexemes_of-append [] v = refl
lexemes_of-append (p ∷ u) v = ap (λ (ts : List Lexeme). p.0 ∷ ts) (lexemes_of-append u v)

pub lexemes_of-two : (u v : Word) (rest : List Lexeme)
    → lexemes_of (u ++ v) ++ rest ≡ lexemes_of u ++ (lexemes_of v ++ rest)
lexemes_of-two u v rest = ap (λ (ts : List Lexeme). ts ++ rest) (lexemes_of-append u v)
    ∙ append_assoc (lexemes_of u) (lexemes_of v) rest

pub Within-append : (u v : Word) → Within u → Within v → Within (u ++ v)
Within-append [] v h k = k
Within-append (p ∷ u) v h k = (h.0, Within-append u v h.1 k)

pub ends-append : (last : ℕ) (u v : Word) → ends last (u ++ v) ≡ ends (ends last u) v
ends-append last [] v = refl
ends-append last (p ∷ u) v = ends-append p.0.end u v

pub Reason-append : (c : ParseError) (more v : Word) (ts : List Lexeme) → Reason c more ts
    → Reason c (more ++ v) ts
Reason-append Memory more v ts h = h
Reason-append Grammar more v ts h = h
Reason-append TooDeep [] v ts h = absurd h
Reason-append TooDeep (p ∷ w) v [] h = absurd h
Reason-append TooDeep (p ∷ w) v (t ∷ ts) h = h

-- ---- lengths

pub none_above : (a : Lexeme) (u : List Lexeme) (ts : List Lexeme) → a ∷ (u ++ ts) ≡ ts → ⊥
none_above a u ts e = let n = ap length e in omega (arith, n, length-append u ts)

-- ---- what holds of an outcome that isn't there

pub cut_err : {A : Type 0} (t : Lexeme) (r : List Lexeme) (out : Outcome A)
    → Cut t r out (Err at_end)
cut_err t r (Ok q) = λ e. inr refl
cut_err t r (Err s) = λ code e. refl

pub cut_held : {A : Type 0} (t : Lexeme) (r : List Lexeme) (out out2 : Outcome A) → Held t r out
    → Cut t r out out2
cut_held t r (Ok q) out2 h = λ e. absurd (h e)
cut_held t r (Err s) out2 h = λ code e. absurd (h code e)
