-- What holds of the files that tokens spell: they spell exactly one, or have exactly one fault.
use Rattle.std.specs.Prelude.{◌≡◌, ◌⊎◌, ◌≤◌, ℕ, List, length}
use Rattle.std.specs.List.{Contains}
use Rattle.iec_tables.specs.declared.fault.FaultCode.{FaultCode}
use Rattle.token_grammar.specs.declared.token.Token.{Token}
use Rattle.st_lexer.specs.Placed.{IsIn}
use Rattle.st_tree.specs.declared.file.FilePart.{FilePart}
use Rattle.st_units.specs.Files.{IsFile, IsFileFault}

-- The tokens of a text spell a file, or have a fault.
abbrev pub SomeFile : Type 0
SomeFile =
    (text : List ℕ) (tokens : List Token) →
    ((parts : List FilePart) × IsFile text tokens parts)
    ⊎ ((code : FaultCode) × (at : ℕ) × IsFileFault text tokens code at)

-- They spell one file at most.
abbrev pub OneFile : Type 0
OneFile =
    (text : List ℕ) (tokens : List Token) (parts other : List FilePart) →
    IsFile text tokens parts → IsFile text tokens other → parts ≡ other

-- They have one fault at most,
abbrev pub OneFileFault : Type 0
OneFileFault =
    (text : List ℕ) (tokens : List Token) (code other : FaultCode) (at place : ℕ) →
    IsFileFault text tokens code at → IsFileFault text tokens other place →
    (code ≡ other) × (at ≡ place)

-- and none where they spell a file.
abbrev pub NoneOfBoth : Type 0
NoneOfBoth =
    (text : List ℕ) (tokens : List Token) (parts : List FilePart) (code : FaultCode) (at : ℕ) →
    IsFile text tokens parts → IsFileFault text tokens code at → ⊥

-- A fault stands within the text, or at its end.
abbrev pub FaultIn : Type 0
FaultIn =
    (text : List ℕ) (tokens : List Token) (code : FaultCode) (at : ℕ) →
    ((t : Token) → Contains tokens t → IsIn text t) →
    IsFileFault text tokens code at → at ≤ length text
