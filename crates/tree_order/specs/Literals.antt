-- The texts in a tree, as those of its numbers, times and addresses, are the texts of tokens.
-- Source: this profile. The code copies the bytes of a token into the tree and cuts no text again.
use Rattle.std.specs.Prelude.{◌≡◌, ℕ, List, Contains, Some}
use Rattle.token_grammar.specs.declared.token.TokenKind.{TokenKind}
use Rattle.token_grammar.specs.declared.token.Token.{Token}
use Rattle.token_grammar.specs.Texts.{lexeme}
use Rattle.st_lexer.specs.Cut.{IsCut}
use Rattle.st_tree.specs.declared.file.SourceTree.{SourceTree}
use Rattle.st_units.specs.SourceTrees.{IsSourceTree, IsTreeOf}
use Rattle.tree_order.specs.Subtrees.{Tree, layer_of, IsPartOf}

-- A token of this kind among these has these bytes.
pub record IsTextOf (text : List ℕ) (tokens : List Token) (kind : TokenKind) (bytes : List ℕ)
    : Type 0 where
  pub token : Token
  pub there : Contains tokens token
  pub kind_is : token.kind ≡ kind
  pub bytes_are : (lexeme text token).bytes ≡ bytes

-- Each text in a tree is that of a token.
abbrev pub TextsOfTokens : Type 0
TextsOfTokens =
    (text : List ℕ) (tree : SourceTree) (tokens : List Token) →
    IsCut text tokens → IsSourceTree text tokens tree →
    (part : Tree) → IsPartOf tree part → (kind : TokenKind) (bytes : List ℕ) →
    (layer_of part).text ≡ Some (kind, bytes) → IsTextOf text tokens kind bytes

-- So each text of this kind in a tree has a value.
abbrev pub TextsHaveValues : {A : Type 0} → TokenKind → (List ℕ → A → Type 0) → Type 0
TextsHaveValues {A} kind HasValue =
    (text : List ℕ) (tree : SourceTree) → IsTreeOf text tree → (part : Tree) → IsPartOf tree part →
    (bytes : List ℕ) → (layer_of part).text ≡ Some (kind, bytes) →
    (value : A) × HasValue bytes value
