-- Where the tokens of a text stand. Source: this profile. The code takes each token from the front of the bytes that are left.
use Rattle.std.specs.Prelude.{ℕ, ◌≤◌, ◌<◌, List, length}
use Rattle.token_grammar.specs.declared.token.Token.{Token}

-- The token has a byte or more, and all of them are bytes of the text.
pub record IsIn (text : List ℕ) (t : Token) : Type 0 where
  pub some : t.start < t.end
  pub within : t.end ≤ length text
