-- What a parser found, on the way to what the tokens spell.
use Rattle.std.specs.Prelude.{◌≡◌, ◌≢◌, ℕ, ◌+◌, ◌-◌, ◌≤◌, List, length, drop, Result, Ok, Err}
use Rattle.std.specs.List.{filter}
use Rattle.iec_tables.specs.declared.fault.FaultCode.TheVariants as code
use Rattle.token_grammar.specs.declared.token.Token.{Token}
use Rattle.token_grammar.specs.declared.fault.ParseError.{ParseError}
use Rattle.token_grammar.specs.declared.fault.ParseError.TheVariants.{Memory, Grammar, TooDeep}
use Rattle.token_grammar.specs.Texts.{Lexeme}
use Rattle.token_grammar.specs.Kept.{is_kept, place_at}
use Rattle.token_grammar.specs.Grammar.{Rule}
use Rattle.token_grammar.specs.steps.Parsers.{Input, Parser}
use Rattle.st_tree.specs.declared.file.FilePart.{FilePart}
use Rattle.st_units.specs.Files.{IsFile, IsFileFault}
use Rattle.st_units.specs.Fronts.{words_from, IsAtKept, IsFront, RefusesFront}
use Rattle.st_units.specs.declared.fault.ParseFault.{ParseFault}
use Rattle.st_units.specs.declared.fault.ParseFault.TheVariants.{At, Lex, NoMemory}

-- the fault at a place for which a parser reads nothing
abbrev pub fault_of : ParseError → ℕ → ParseFault
fault_of Memory at = NoMemory
fault_of Grammar at = At code.Grammar at
fault_of TooDeep at = At code.TooDeep at

-- ---- files

-- what all the tokens are parsed to
abbrev pub PartsFound : List ℕ → List Token → Result (List FilePart) ParseFault → Type 0
PartsFound text tokens (Ok parts) = IsFile text tokens parts
PartsFound text tokens (Err (At code at)) = IsFileFault text tokens code at
PartsFound text tokens (Err (Lex fault)) = ⊥
PartsFound text tokens (Err NoMemory) = Unit {0}

-- ---- fronts

-- the lexemes of the tokens from the number on, in a place of that depth
abbrev pub input_from : ℕ → List ℕ → List Token → ℕ → Input
input_from outer text tokens from =
    record { rest = words_from text tokens from; last = 0; depth = outer }

-- how many of the tokens from the number on are kept
abbrev pub kept_behind : List Token → ℕ → ℕ
kept_behind tokens from = length (filter is_kept (drop from tokens))

-- The number of the next token that is kept, or of tokens where none is left, behind those that
-- were
-- read from the number on.
pub record IsBehind (tokens : List Token) (from : ℕ) (rest : List Lexeme) (to : ℕ) : Type 0 where
  pub later : from ≤ to
  pub within : to ≤ length tokens
  pub next : IsAtKept (drop to tokens)
  pub count : kept_behind tokens from ≡ (kept_behind tokens from - length rest) + kept_behind tokens
      to

-- The parser reads the value, or stops for the fault.
abbrev pub FrontFound : {A : Type 0} → Parser A → ℕ → List ℕ → List Token → ℕ
    → Result (A × ℕ) ParseFault → Type 0
FrontFound parser outer text tokens from (Ok read) =
    (left : Input)
    × (parser (input_from outer text tokens from) ≡ Ok (read.0, left))
    × IsBehind tokens from left.rest read.1
FrontFound parser outer text tokens from (Err fault) =
    (error : ParseError) × (rest : List Lexeme)
    × (error ≢ Memory →
    parser (input_from outer text tokens from) ≡ Err (record { code = error; rest = rest }))
    × (fault ≡ fault_of error (place_at text rest))

-- the same in the words of the grammar
abbrev pub FindsFront : {A : Type 0} → Rule A → ℕ → List ℕ → List Token → ℕ
    → Result (A × ℕ) ParseFault → Type 0
FindsFront L outer text tokens from (Ok read) = IsFront L outer text tokens from read.0 read.1
FindsFront L outer text tokens from (Err fault) = RefusesFront L outer text tokens from fault
