-- What holds of all cuts: each text has exactly one cut or exactly one fault. Source: this profile.
use Rattle.std.specs.Prelude.{◌≡◌, ◌⊎◌, ℕ, ◌≤◌, List, length}
use Rattle.std.specs.List.{Contains}
use Rattle.iec_tables.specs.declared.fault.FaultCode.{FaultCode}
use Rattle.token_grammar.specs.declared.token.Token.{Token}
use Rattle.st_lexer.specs.Cut.{IsCut, IsFault}
use Rattle.st_lexer.specs.Placed.{IsIn}

-- a text has a cut or a fault
abbrev pub SomeCut : Type 0
SomeCut = (text : List ℕ) → ((tokens : List Token) × IsCut text tokens) ⊎ ((code : FaultCode) × (place : ℕ) × IsFault text code place)

-- two cuts of a text are one
abbrev pub OneCut : Type 0
OneCut = (text : List ℕ) (xs ys : List Token) → IsCut text xs → IsCut text ys → xs ≡ ys

-- two faults of a text are one
abbrev pub OneFault : Type 0
OneFault = (text : List ℕ) (c d : FaultCode) (at place : ℕ) → IsFault text c at → IsFault text d place → (c ≡ d) × (at ≡ place)

-- no text has both
abbrev pub NotBoth : Type 0
NotBoth = (text : List ℕ) (tokens : List Token) (code : FaultCode) (place : ℕ) → IsCut text tokens → IsFault text code place → ⊥

-- each token of a cut stands in the text
abbrev pub TokensIn : Type 0
TokensIn = (text : List ℕ) (tokens : List Token) → IsCut text tokens → (t : Token) → Contains tokens t → IsIn text t

-- a fault stands in the text, or at its end
abbrev pub FaultIn : Type 0
FaultIn = (text : List ℕ) (code : FaultCode) (place : ℕ) → IsFault text code place → place ≤ length text
