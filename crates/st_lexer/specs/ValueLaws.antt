-- What holds of the values of all texts: each number, typed number, time and address has exactly one
-- value and nothing else has one, and each token of these kinds in a cut is such a text. Source:
-- this profile.
use Rattle.std.specs.Prelude.{◌≡◌, ℕ, ◌^◌, ◌<◌, ℤ, List}
use Rattle.std.specs.List.{Contains}
use Rattle.iec_tables.specs.Types.{IsInRange}
use Rattle.iec_tables.specs.declared.elem.Elem.TheVariants as elem
use Rattle.token_grammar.specs.Texts.{lexeme}
use Rattle.token_grammar.specs.declared.token.TokenKind.{TokenKind}
use Rattle.token_grammar.specs.declared.token.Token.{Token}
use Rattle.st_lexer.specs.declared.values.Area.{Area}
use Rattle.st_lexer.specs.declared.values.Width.{Width}
use Rattle.st_lexer.specs.Bytes.{value_in}
use Rattle.st_lexer.specs.Texts.{IsText}
use Rattle.st_lexer.specs.Cut.{IsCut}
use Rattle.st_lexer.specs.Values.{plain_digits, positional, IsNumberValue, IsTimeValue, IsAddressValue}

-- each text of the kind has a value, no other text has one, and no text has two
pub record HaveOneValue {A : Type 0} (IsOne : List ℕ → Type 0) (HasValue : List ℕ → A → Type 0)
    : Type 0 where
  pub some : (text : List ℕ) → IsOne text → (value : A) × HasValue text value
  pub only : (text : List ℕ) (value : A) → HasValue text value → IsOne text
  pub one : (text : List ℕ) (v w : A) → HasValue text v → HasValue text w → v ≡ w

-- the area, the width and the numbers of an address
abbrev pub IsAddressWith : List ℕ → Area × Width × List ℕ → Type 0
IsAddressWith text parts = IsAddressValue text parts.0 parts.1 parts.2

-- each token of a cut has the text of its kind
abbrev pub TokensHaveTexts : Type 0
TokensHaveTexts =
    (text : List ℕ) (tokens : List Token) → IsCut text tokens → (t : Token) → Contains tokens t
    → IsText t.kind (lexeme text t).bytes

-- each token of that kind in a cut is such a text, and has a value
pub record TokensHaveValues {A : Type 0} (k : TokenKind) (IsOne : List ℕ → Type 0)
    (HasValue : List ℕ → A → Type 0) : Type 0 where
  pub is : (text : List ℕ) (tokens : List Token) → IsCut text tokens → (t : Token)
      → Contains tokens t → t.kind ≡ k → IsOne (lexeme text t).bytes
  pub value : (text : List ℕ) (tokens : List Token) → IsCut text tokens → (t : Token)
      → Contains tokens t → t.kind ≡ k
      → (value : A) × HasValue (lexeme text t).bytes value

-- The number by which texts of numerals and times are bounded, one digit after the other, is the sum
-- of the digits by their places.
abbrev pub DigitsByPlaces : Type 0
DigitsByPlaces =
    (base : ℕ) (digits : List ℕ) → value_in base digits ≡ positional base (plain_digits digits)

-- numbers are below 2^128
abbrev pub NumbersSmall : Type 0
NumbersSmall = (text : List ℕ) (value : ℕ) → IsNumberValue text value → value < 2 ^ 128

-- times are in the range of TIME
abbrev pub TimesInRange : Type 0
TimesInRange =
    (text : List ℕ) (milliseconds : ℤ) → IsTimeValue text milliseconds
    → IsInRange elem.Time milliseconds
