-- The tokens that the grammar reads: it passes over comments and pragmas.
use Rattle.std.specs.Prelude.{ℕ, Bool, not, ◌||◌, List, [], ◌∷◌, length}
use Rattle.std.specs.List.{filter}
use Rattle.token_grammar.specs.declared.token.TokenKind.{TokenKind}
use Rattle.token_grammar.specs.declared.token.TokenKind.TheVariants.{Comment, Pragma}
use Rattle.token_grammar.specs.declared.token.Token.{Token}
use Rattle.token_grammar.specs.Texts.{Lexeme, lexemes}
use Rattle.token_grammar.specs.Kinds.{same_kind}

abbrev pub keeps : TokenKind → Bool
keeps kind = not (same_kind kind Comment || same_kind kind Pragma)

abbrev pub is_kept : Token → Bool
is_kept t = keeps t.kind

-- the lexemes of the tokens that are kept
abbrev pub words_of : List ℕ → List Token → List Lexeme
words_of text tokens = lexemes text (filter is_kept tokens)

-- the first byte of the next lexeme, or the text's length
abbrev pub place_at : List ℕ → List Lexeme → ℕ
place_at text [] = length text
place_at text (l ∷ ls) = l.start
