-- Lexemes: the tokens of a text with their bytes. The code borrows the bytes from the text.
use Rattle.std.specs.Prelude.{ℕ, ◌-◌, ◌*◌, ◌+◌, List, map, take, drop}
use Rattle.std.specs.List.{fold}
use Rattle.iec_tables.specs.Letters.{raised}
use Rattle.token_grammar.specs.declared.token.TokenKind.{TokenKind}
use Rattle.token_grammar.specs.declared.token.Token.{Token}

pub record Lexeme : Type 0 where
  pub kind : TokenKind
  -- its first byte, and the byte after its last
  pub start : ℕ
  pub end : ℕ
  pub bytes : List ℕ
  -- the byte behind it, if there is one
  pub behind : List ℕ

abbrev pub lexeme : List ℕ → Token → Lexeme
lexeme text t = record {
  kind = t.kind;
  start = t.start;
  end = t.end;
  bytes = take (t.end - t.start) (drop t.start text);
  behind = take 1 (drop t.end text);
}

abbrev pub lexemes : List ℕ → List Token → List Lexeme
lexemes text ts = map (lexeme text) ts

-- a name is compared with its ASCII letters raised
abbrev pub name_of : Lexeme → List ℕ
name_of l = map raised l.bytes

-- the value of decimal digits
abbrev pub number_of : List ℕ → ℕ
number_of digits = fold (λ value digit. value * 10 + (digit - 48)) 0 digits
