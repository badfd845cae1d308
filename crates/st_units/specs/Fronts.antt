-- What is read of a list of tokens from one of them on: the longest front that begins a rule, where
-- it
-- spells the rule, and else its first fault. Source: the textual grammar of IEC 61131-3:2013,
-- narrowed
-- to this profile. The grammar passes over comments and pragmas; the code copies the other tokens,
-- reads
-- them once, and counts in the list how far it came.
use Rattle.std.specs.Prelude.{◌≡◌, ◌⊎◌, ℕ, ◌≤◌, true, List, [], ◌∷◌, length, drop, Result, Ok, Err}
use Rattle.iec_tables.specs.declared.fault.FaultCode.{FaultCode}
use Rattle.iec_tables.specs.declared.fault.FaultCode.TheVariants as fault
use Rattle.token_grammar.specs.declared.token.Token.{Token}
use Rattle.token_grammar.specs.Texts.{Lexeme}
use Rattle.token_grammar.specs.Kept.{is_kept, words_of, place_at}
use Rattle.token_grammar.specs.Grammar.{Rule, max_depth, SpellsFront, IsGrammarFault, IsTooDeep}
use Rattle.st_units.specs.declared.fault.ParseFault.{ParseFault}
use Rattle.st_units.specs.declared.fault.ParseFault.TheVariants.{At, Lex, NoMemory}

-- the lexemes of the tokens that are kept, from a number on
abbrev pub words_from : List ℕ → List Token → ℕ → List Lexeme
words_from text tokens from = words_of text (drop from tokens)

-- no token is left, or the next one is kept
abbrev pub IsAtKept : List Token → Type 0
IsAtKept [] = Unit {0}
IsAtKept (t ∷ ts) = is_kept t ≡ true

-- From the one number on the longest front of the tokens spells the value, none of it too deep. The
-- other
-- number is that of the token behind the front: of the next one that is kept, or the number of
-- tokens
-- where none is left.
pub record IsFront {A : Type 0} (L : Rule A) (outer : ℕ) (text : List ℕ) (tokens : List Token)
    (from : ℕ) (x : A) (to : ℕ) : Type 0 where
  pub spelled : SpellsFront L outer (words_from text tokens from) x (words_from text tokens to)
  pub later : from ≤ to
  pub within : to ≤ length tokens
  pub next : IsAtKept (drop to tokens)

-- Up to the rest the lexemes begin the rule, none of them too deep. With the next one they no
-- longer do,
-- and up to it they spell nothing; or they still do, and that one stands too deep.
abbrev pub IsFrontCause : {A : Type 0} → Rule A → ℕ → List Lexeme → List Lexeme → FaultCode → Type 0
IsFrontCause L outer words rest fault.Grammar = IsGrammarFault L outer words rest
IsFrontCause L outer words rest fault.TooDeep = IsTooDeep L outer words rest
IsFrontCause L outer words rest other = ⊥

-- From the number on no front of the tokens spells the rule, for this fault at this byte: at the
-- token
-- behind the longest front that begins it, or at the end of the text where none follows; or at the
-- front's first token that stands too deep.
pub record IsFrontFault {A : Type 0} (L : Rule A) (outer : ℕ) (text : List ℕ) (tokens : List Token)
    (from : ℕ) (code : FaultCode) (at : ℕ) : Type 0 where
  pub rest : List Lexeme
  pub cause : IsFrontCause L outer (words_from text tokens from) rest code
  pub place : at ≡ place_at text rest

-- why nothing is read of the tokens from the number on, in a place of that depth
abbrev pub RefusesFront : {A : Type 0} → Rule A → ℕ → List ℕ → List Token → ℕ → ParseFault → Type 0
RefusesFront L outer text tokens from (At code at) = IsFrontFault L outer text tokens from code at
RefusesFront L outer text tokens from (Lex fault) = ⊥
RefusesFront L outer text tokens from NoMemory = Unit {0}

-- what they are parsed to, with its nodes numbered
abbrev pub ParsesFront : {A : Type 0} → Rule A → (number : A → A) → ℕ → List ℕ → List Token → ℕ
    → Result (A × ℕ) ParseFault → Type 0
ParsesFront L number outer text tokens from (Ok read) =
    (x : _) × IsFront L outer text tokens from x read.1 × (read.0 ≡ number x)
ParsesFront L number outer text tokens from (Err fault) =
    RefusesFront L outer text tokens from fault

-- What holds of the fronts of a list of tokens, in a place of each depth.
pub record FrontLaws {A : Type 0} (L : Rule A) : Type 0 where
  -- A value is spelled, or there is a fault.
  pub some : (outer : ℕ) → outer ≤ max_depth → (text : List ℕ) (tokens : List Token) (from : ℕ)
      → from ≤ length tokens
      → ((x : A) × (to : ℕ) × IsFront L outer text tokens from x to)
      ⊎ ((code : FaultCode) × (at : ℕ) × IsFrontFault L outer text tokens from code at)
  -- One value at most is spelled, up to one number,
  pub one : (outer : ℕ) → outer ≤ max_depth → (text : List ℕ) (tokens : List Token) (from : ℕ)
      (x y : A) (to other : ℕ)
      → IsFront L outer text tokens from x to → IsFront L outer text tokens from y other
      → (x ≡ y) × (to ≡ other)
  -- there is one fault at most,
  pub one_fault : (outer : ℕ) → outer ≤ max_depth → (text : List ℕ) (tokens : List Token) (from : ℕ)
      (code other : FaultCode) (at place : ℕ)
      → IsFrontFault L outer text tokens from code at
      → IsFrontFault L outer text tokens from other place
      → (code ≡ other) × (at ≡ place)
  -- and none where a front spells a value.
  pub none_of_both : (outer : ℕ) → outer ≤ max_depth
      → (text : List ℕ) (tokens : List Token) (from : ℕ)
      (x : A) (to : ℕ) (code : FaultCode) (at : ℕ)
      → IsFront L outer text tokens from x to → IsFrontFault L outer text tokens from code at → ⊥
