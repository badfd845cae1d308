-- A grammar: which lexemes, at which depths, spell which value. A rule reads like a line of the
-- textual grammar of the standard. The code descends by a look at the next token.
use Rattle.std.specs.Prelude.{◌≡◌, ◌⊎◌, ℕ, zero, suc, ◌+◌, ◌<◌, ◌≤◌, Bool, true, List, [], ◌∷◌, ◌++◌}
use Rattle.token_grammar.specs.declared.token.TokenKind.{TokenKind}
use Rattle.token_grammar.specs.Texts.{Lexeme}
use Rattle.token_grammar.specs.Kinds.{is_kind}

-- lexemes, each with the depth at which it stands
abbrev pub Word : Type 0
Word = List (Lexeme × ℕ)

abbrev pub lexemes_of : Word → List Lexeme
lexemes_of [] = []
lexemes_of (p ∷ w) = p.0 ∷ lexemes_of w

-- From the first depth on the word spells the value, and leaves the second depth.
abbrev pub Rule : Type 0 → Type 1
Rule A = ℕ → Word → A → ℕ → Type 0

-- nothing
abbrev pub give : {A : Type 0} → A → Rule A
give a d w x e = (w ≡ []) × (x ≡ a) × (e ≡ d)

-- A lexeme that passes the test stands `own` deeper than what is around it, and what follows is
-- `more` deeper.
abbrev pub token_as : (Lexeme → Bool) → (own more : ℕ) → Rule Lexeme
token_as test own more d w t e = (w ≡ (t, d + own) ∷ []) × (test t ≡ true) × (e ≡ d + more)

-- a lexeme that passes the test
abbrev pub token_that : (Lexeme → Bool) → Rule Lexeme
token_that test = token_as test 0 0

-- a lexeme of this kind
abbrev pub token : TokenKind → Rule Lexeme
token k = token_that (is_kind k)

-- one after the other
infixl 10 ◌>>=◌
abbrev pub ◌>>=◌ : {A B : Type 0} → Rule A → (A → Rule B) → Rule B
(L >>= M) d w y e = (u v : Word) × (x : _) × (m : ℕ) × (w ≡ u ++ v) × L d u x m × M x m v y e

-- either
infixl 9 ◌or◌
abbrev pub ◌or◌ : {A : Type 0} → Rule A → Rule A → Rule A
(L or M) d w x e = L d w x e ⊎ M d w x e

-- what is opened or operated within is over after it
abbrev pub scoped : {A : Type 0} → Rule A → Rule A
scoped L d w x e = (m : ℕ) × L d w x m × (e ≡ d)

-- one deeper
abbrev pub deeper : {A : Type 0} → Rule A → Rule A
deeper L d w x e = L (d + 1) w x e

-- so many times
abbrev pub times : {A : Type 0} → (A → Rule A) → ℕ → A → Rule A
times step zero a d w x e = (w ≡ []) × (x ≡ a) × (e ≡ d)
times step (suc n) a d w x e =
    (u v : Word) × (b : _) × (m : ℕ) × (w ≡ u ++ v) × step a d u b m × times step n b m v x e

-- any number of times, from a first value on
abbrev pub many : {A : Type 0} → (A → Rule A) → A → Rule A
many step a d w x e = (n : ℕ) × times step n a d w x e

-- the first byte of the word, and the byte after its last
abbrev pub start_of : Word → ℕ
start_of [] = 0
start_of (p ∷ w) = p.0.start

abbrev pub end_of : Word → ℕ
end_of [] = 0
end_of (p ∷ []) = p.0.end
end_of (p ∷ q ∷ w) = end_of (q ∷ w)

-- a value made of the first byte, the byte after the last, and what is spelled
abbrev pub node : {A B : Type 0} → (ℕ → ℕ → A → B) → Rule A → Rule B
node make L d w y e = (x : _) × L d w x e × (y ≡ make (start_of w) (end_of w) x)

-- The lexemes begin a rule: with some more they spell it.
pub record Begins {A : Type 0} (L : Rule A) (d : ℕ) (ts : List Lexeme) : Type 0 where
  pub word : Word
  pub more : Word
  pub value : A
  pub depth : ℕ
  pub tokens : lexemes_of word ≡ ts
  pub spelled : L d (word ++ more) value depth

-- With the next lexeme they no longer do.
abbrev pub Stops : {A : Type 0} → Rule A → ℕ → List Lexeme → List Lexeme → Type 0
Stops L d front rest =
    (t : Lexeme) (after : List Lexeme) → rest ≡ t ∷ after → Begins L d (front ++ t ∷ []) → ⊥

-- the greatest depth of a token
abbrev pub max_depth : ℕ
max_depth = 256

-- no lexeme stands too deep
abbrev pub Within : Word → Type 0
Within [] = Unit {0}
Within (p ∷ w) = (p.1 ≤ max_depth) × Within w

-- The lexemes spell the value, none of them too deep.
pub record Spells {A : Type 0} (L : Rule A) (ts : List Lexeme) (x : A) : Type 0 where
  pub word : Word
  pub depth : ℕ
  pub tokens : lexemes_of word ≡ ts
  pub spelled : L 0 word x depth
  pub within : Within word

-- The lexemes up to the rest begin the rule, and with the next one they no longer do.
pub record IsLongestFront {A : Type 0} (L : Rule A) (ts rest : List Lexeme) : Type 0 where
  pub front : List Lexeme
  pub tokens : ts ≡ front ++ rest
  pub begun : Begins L 0 front
  pub stops : Stops L 0 front rest

-- The lexemes begin with a word that spells the value, none of it too deep, and with no longer list
-- that begins the rule.
pub record SpellsFront {A : Type 0} (L : Rule A) (d : ℕ) (ts : List Lexeme) (x : A)
    (rest : List Lexeme) : Type 0 where
  pub word : Word
  pub depth : ℕ
  pub tokens : ts ≡ lexemes_of word ++ rest
  pub spelled : L d word x depth
  pub within : Within word
  pub longest : Stops L d (lexemes_of word) rest

-- The lexemes up to the rest begin the rule, none of them too deep, and with the next one they
-- don't.
pub record IsGrammarFault {A : Type 0} (L : Rule A) (d : ℕ) (ts rest : List Lexeme) : Type 0 where
  pub word : Word
  pub more : Word
  pub value : A
  pub depth : ℕ
  pub tokens : ts ≡ lexemes_of word ++ rest
  pub begun : L d (word ++ more) value depth
  pub within : Within word
  pub longest : Stops L d (lexemes_of word) rest
  -- and up to the rest they spell nothing
  pub unspelled : (w : Word) (x : A) (e : ℕ) → L d w x e → ts ≡ lexemes_of w ++ rest → ⊥

-- The lexemes up to the rest begin the rule, none of them too deep, and with the next one they
-- still do, but it stands too deep.
pub record IsTooDeep {A : Type 0} (L : Rule A) (d : ℕ) (ts rest : List Lexeme) : Type 0 where
  pub word : Word
  pub next : Lexeme × ℕ
  pub more : Word
  pub value : A
  pub depth : ℕ
  pub after : List Lexeme
  pub tokens : ts ≡ lexemes_of word ++ rest
  pub there : rest ≡ next.0 ∷ after
  pub begun : L d (word ++ next ∷ more) value depth
  pub within : Within word
  pub deep : max_depth < next.1

-- The whole list spells nothing. Up to the rest it begins the rule, no lexeme too deep, and with
-- the next one it no longer does.
pub record IsWrong {A : Type 0} (L : Rule A) (ts rest : List Lexeme) : Type 0 where
  pub word : Word
  pub more : Word
  pub value : A
  pub depth : ℕ
  pub tokens : ts ≡ lexemes_of word ++ rest
  pub begun : L 0 (word ++ more) value depth
  pub within : Within word
  pub longest : Stops L 0 (lexemes_of word) rest
  pub unspelled : (x : A) → Spells L ts x → ⊥
