-- What is promised of an answer of the lexer.
use Rattle.std.specs.Prelude.{◌≡◌, ℕ, List, Result, Ok, Err}
use Rattle.token_grammar.specs.declared.token.Tokens.{Tokens}
use Rattle.st_lexer.specs.declared.cut.LexFault.{LexFault}
use Rattle.st_lexer.specs.declared.cut.LexFault.TheVariants.{At, NoMemory}
use Rattle.st_lexer.specs.Cut.{IsCut, IsFault}

abbrev pub Refuses : List ℕ → LexFault → Type 0
Refuses text (At code at) = IsFault text code at
Refuses text NoMemory = Unit {0}

-- The tokens of the text, or its first fault.
abbrev pub Answers : List ℕ → Result Tokens LexFault → Type 0
Answers text (Ok tokens) = (tokens.text.now ≡ text) × IsCut text tokens.list.items
Answers text (Err fault) = Refuses text fault
