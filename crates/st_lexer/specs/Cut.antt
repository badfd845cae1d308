-- The one cut of a text into tokens, or its first fault. Source: the lexical elements of the standard, with longest match; this profile for the order of faults.
-- The code reads the bytes from left to right.
use Rattle.std.specs.Prelude.{◌≡◌, ◌⊎◌, ℕ, ◌+◌, ◌≤◌, true, List, [], ◌∷◌, ◌++◌, length, take, drop, bytes_eq, if◌then◌else◌}
use Rattle.std.specs.List.{list_all}
use Rattle.std.specs.Str.{IsUtf8, IsValidUpTo}
use Rattle.iec_tables.specs.declared.fault.FaultCode.{FaultCode}
use Rattle.iec_tables.specs.declared.fault.FaultCode.TheVariants.{NotUtf8}
use Rattle.token_grammar.specs.declared.token.TokenKind.{TokenKind}
use Rattle.token_grammar.specs.declared.token.Token.{Token}
use Rattle.st_lexer.specs.Bytes.{is_white}
use Rattle.st_lexer.specs.Texts.{IsText}
use Rattle.st_lexer.specs.Faulty.{HasNoFault, IsFaulty}

-- No token of any kind that begins here has a longer text.
abbrev pub IsLongest : ℕ → List ℕ → Type 0
IsLongest n bytes = (kind : TokenKind) (text rest : List ℕ) → bytes ≡ text ++ rest → IsText kind text → length text ≤ n

-- A token of that kind stands at the front of `text ++ rest`, with this text: the longest there, and no fault is met.
pub record IsToken (kind : TokenKind) (text rest : List ℕ) : Type 0 where
  pub text_is : IsText kind text
  pub longest : IsLongest (length text) (text ++ rest)
  pub no_fault : HasNoFault (text ++ rest)

-- From the place on the bytes are white space, up to a further place, from which on the rest is left.
pub record IsBlank (at : ℕ) (bytes : List ℕ) (place : ℕ) (rest : List ℕ) : Type 0 where
  pub white : List ℕ
  pub bytes_are : bytes ≡ white ++ rest
  pub blank : list_all is_white white ≡ true
  pub place_is : place ≡ at + length white

-- One token of the cut: white space, then its text, then the rest.
pub record IsNext (at : ℕ) (bytes : List ℕ) (t : Token) (rest : List ℕ) : Type 0 where
  pub text : List ℕ
  pub blank : IsBlank at bytes t.start (text ++ rest)
  pub end : t.end ≡ t.start + length text
  pub token : IsToken t.kind text rest

-- From the place on the bytes are cut into these tokens, up to a further place, from which on the rest is left.
abbrev pub CutTo : ℕ → List ℕ → List Token → ℕ → List ℕ → Type 0
CutTo at bytes [] place rest = IsBlank at bytes place rest
CutTo at bytes (t ∷ ts) place rest = (more : List ℕ) × IsNext at bytes t more × CutTo t.end more ts place rest

-- A byte order mark at the start of a text is white space.
abbrev pub mark_length : List ℕ → ℕ
mark_length text = if bytes_eq (take 3 text) (239 ∷ 187 ∷ 191 ∷ []) then 3 else 0

-- The text is cut into these tokens up to a place.
abbrev pub IsCutTo : List ℕ → List Token → ℕ → List ℕ → Type 0
IsCutTo text tokens place rest = CutTo (mark_length text) (drop (mark_length text) text) tokens place rest

-- These are the tokens of the text.
pub record IsCut (text : List ℕ) (tokens : List Token) : Type 0 where
  pub utf8 : IsUtf8 text
  pub cut : IsCutTo text tokens (length text) []

-- This fault is met at the front of the rest, where the text is cut up to there.
pub record IsStopped (text : List ℕ) (code : FaultCode) (place : ℕ) : Type 0 where
  pub utf8 : IsUtf8 text
  pub tokens : List Token
  pub rest : List ℕ
  pub cut : IsCutTo text tokens place rest
  pub faulty : IsFaulty code rest

-- The first fault of a text: it isn't UTF-8, at the end of its longest front that is; else the one that is met first when it is cut from its start.
abbrev pub IsFault : List ℕ → FaultCode → ℕ → Type 0
IsFault text code place = ((code ≡ NotUtf8) × IsValidUpTo text place) ⊎ IsStopped text code place
