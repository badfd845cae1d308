-- Which kind of token is which. The code compares the kinds themselves.
use Rattle.std.specs.Prelude.{ℕ, Bool, nat_eq}
use denote.Enum.Declared.{tag_of}
use Rattle.token_grammar.specs.contracts.token.TokenKind.{the_type}
use Rattle.token_grammar.specs.declared.token.TokenKind.{TokenKind}
use Rattle.token_grammar.specs.Texts.{Lexeme}

-- the place of a kind in the list of kinds
abbrev pub place_of : TokenKind → ℕ
place_of kind = tag_of the_type kind

abbrev pub same_kind : TokenKind → TokenKind → Bool
same_kind a b = nat_eq (place_of a) (place_of b)

-- the lexeme is of this kind
abbrev pub is_kind : TokenKind → Lexeme → Bool
is_kind k l = same_kind l.kind k
