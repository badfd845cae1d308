-- What the text of a file is: the parts that its tokens spell, or its first fault. Source: the
-- textual
-- grammar of IEC 61131-3:2013, narrowed to this profile. The code reads the tokens once, from the
-- first
-- to the last.
use Rattle.std.specs.Prelude.{◌≡◌, ℕ, List}
use Rattle.iec_tables.specs.declared.fault.FaultCode.{FaultCode}
use Rattle.iec_tables.specs.declared.fault.FaultCode.TheVariants as fault
use Rattle.token_grammar.specs.declared.token.Token.{Token}
use Rattle.token_grammar.specs.Texts.{Lexeme}
use Rattle.token_grammar.specs.Kept.{words_of, place_at}
use Rattle.token_grammar.specs.Grammar.{Spells, IsWrong, IsTooDeep}
use Rattle.st_tree.specs.declared.file.FilePart.{FilePart}
use Rattle.st_units.specs.Grammar.{file}

-- The tokens spell these parts of a file, none of them too deep. (The grammar passes over comments
-- and
-- pragmas.)
abbrev pub IsFile : List ℕ → List Token → List FilePart → Type 0
IsFile text tokens parts = Spells file (words_of text tokens) parts

-- With the first lexeme of the rest the list no longer begins a file; or it still does, and that
-- lexeme
-- stands too deep.
abbrev pub IsFileCause : List Lexeme → List Lexeme → FaultCode → Type 0
IsFileCause words rest fault.Grammar = IsWrong file words rest
IsFileCause words rest fault.TooDeep = IsTooDeep file 0 words rest
IsFileCause words rest other = ⊥

-- The tokens spell no file, for this fault at this byte: at the first token with which they no
-- longer
-- begin a file, or at the end of the text; or at the first token that stands too deep, where they
-- still
-- begin one.
pub record IsFileFault (text : List ℕ) (tokens : List Token) (code : FaultCode)
    (at : ℕ) : Type 0 where
  pub rest : List Lexeme
  pub cause : IsFileCause (words_of text tokens) rest code
  pub place : at ≡ place_at text rest
