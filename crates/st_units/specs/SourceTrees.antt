-- The tree of a text: the parts that its tokens spell, with their nodes numbered, its comments, and
-- the
-- places of its line feeds. Source: this profile. The code numbers the nodes of the parts first,
-- and then
-- the comments.
use Rattle.std.specs.Prelude.{◌≡◌, ◌⊎◌, ℕ, suc, ◌+◌, ◌≤◌, Bool, List, [], ◌∷◌, map, length, Result, Ok, Err}
use Rattle.std.specs.List.{filter}
use Rattle.iec_tables.specs.declared.fault.FaultCode.{FaultCode}
use Rattle.token_grammar.specs.declared.token.Token.{Token}
use Rattle.token_grammar.specs.declared.token.TokenKind.TheVariants as kind
use Rattle.token_grammar.specs.Texts.{lexeme}
use Rattle.token_grammar.specs.Kinds.{same_kind}
use Rattle.st_lexer.specs.Cut.{IsCut, IsFault as IsCutFault}
use Rattle.st_lexer.specs.declared.cut.LexFault.TheVariants as lex
use Rattle.st_tree.specs.Places.{node_at}
use Rattle.st_tree.specs.Feeds.{feeds_from}
use Rattle.st_tree.specs.declared.file.Comment.{Comment}
use Rattle.st_tree.specs.declared.file.FilePart.{FilePart}
use Rattle.st_tree.specs.declared.file.SourceTree.{SourceTree}
use Rattle.tree_numbers.specs.NodeLists.{nodes_of_parts}
use Rattle.tree_numbers.specs.NumberedAt.{numbered_at}
use Rattle.tree_numbers.specs.Numbers.{numbered_parts}
use Rattle.st_units.specs.Parts.{file_of}
use Rattle.st_units.specs.Files.{IsFile, IsFileFault}
use Rattle.st_units.specs.declared.fault.ParseFault.{ParseFault}
use Rattle.st_units.specs.declared.fault.ParseFault.TheVariants.{At, Lex, NoMemory}

abbrev pub is_comment : Token → Bool
is_comment t = same_kind t.kind kind.Comment

-- the comments of a text; pragmas are none
abbrev pub comments_among : List Token → List Token
comments_among tokens = filter is_comment tokens

-- a comment that so many comments come before, in a file whose nodes start at these places
abbrev pub comment_at : List ℕ → ℕ → List ℕ → Token → Comment
comment_at nodes index text t =
    record { node = numbered_at nodes index (node_at t.start t.end); text = (lexeme text t).bytes }

-- the comments, from the number of the first one on
abbrev pub comments_from : List ℕ → ℕ → List ℕ → List Token → List Comment
comments_from nodes index text [] = []
comments_from nodes index text (t ∷ ts) =
    comment_at nodes index text t ∷ comments_from nodes (suc index) text ts

-- the first bytes of tokens, and of the nodes of parts
abbrev pub starts_of : List Token → List ℕ
starts_of tokens = map (λ t. t.start) tokens

abbrev pub places_of : List FilePart → List ℕ
places_of parts = map (λ node. node.start) (nodes_of_parts parts)

-- The tree of these parts of a text with these comments. A node's number counts the nodes before it
-- and
-- the comments that start before it, a comment's the comments before it and the nodes that start
-- before
-- it.
abbrev pub tree_of : List ℕ → List Token → List FilePart → SourceTree
tree_of text comments parts =
    file_of (numbered_parts (starts_of comments) parts)
    (comments_from (places_of parts) 0 text comments)
    (feeds_from 0 text)

-- The tokens of the text spell these parts, and this is their tree.
pub record IsSourceTree (text : List ℕ) (tokens : List Token) (tree : SourceTree) : Type 0 where
  pub parts : List FilePart
  pub spelled : IsFile text tokens parts
  pub tree_is : tree ≡ tree_of text (comments_among tokens) parts

-- ---- what a text is parsed to

-- The text is cut into tokens that spell no file, or it isn't cut. A parse step is counted for each
-- token,
-- and for no more of them where there is no memory.
abbrev pub IsRefused : List ℕ → (before now : ℕ) → ParseFault → Type 0
IsRefused text before now (At code at) =
    (tokens : List Token)
    × IsCut text tokens × IsFileFault text tokens code at × (now ≡ before + length tokens)
IsRefused text before now (Lex (lex.At code at)) = IsCutFault text code at × (now ≡ before)
IsRefused text before now (Lex lex.NoMemory) = now ≡ before
IsRefused text before now NoMemory =
    (tokens : List Token)
    × IsCut text tokens × (before ≤ now) × (now ≤ before + length tokens)

-- The text is cut into tokens that spell this tree, with a parse step for each; or it is refused.
abbrev pub Answered : List ℕ → (before now : ℕ) → Result SourceTree ParseFault → Type 0
Answered text before now (Ok tree) =
    (tokens : List Token)
    × IsCut text tokens × IsSourceTree text tokens tree × (now ≡ before + length tokens)
Answered text before now (Err fault) = IsRefused text before now fault

-- ---- what holds of texts

-- the tree of a text
abbrev pub IsTreeOf : List ℕ → SourceTree → Type 0
IsTreeOf text tree = (tokens : List Token) × IsCut text tokens × IsSourceTree text tokens tree

-- the fault of a text: of its tokens, or for which it isn't cut into tokens
abbrev pub IsFaultOf : List ℕ → FaultCode → ℕ → Type 0
IsFaultOf text code at =
    ((tokens : List Token) × IsCut text tokens × IsFileFault text tokens code at)
    ⊎ IsCutFault text code at

-- Each text has a tree or a fault.
abbrev pub SomeTreeOrFault : Type 0
SomeTreeOrFault =
    (text : List ℕ) →
    ((tree : SourceTree) × IsTreeOf text tree)
    ⊎ ((code : FaultCode) × (at : ℕ) × IsFaultOf text code at)

-- It has one tree at most,
abbrev pub OneTree : Type 0
OneTree =
    (text : List ℕ) (tree other : SourceTree) →
    IsTreeOf text tree → IsTreeOf text other → tree ≡ other

-- one fault at most,
abbrev pub OneTextFault : Type 0
OneTextFault =
    (text : List ℕ) (code other : FaultCode) (at place : ℕ) →
    IsFaultOf text code at → IsFaultOf text other place → (code ≡ other) × (at ≡ place)

-- and never both.
abbrev pub NoTreeAndFault : Type 0
NoTreeAndFault =
    (text : List ℕ) (tree : SourceTree) (code : FaultCode) (at : ℕ) →
    IsTreeOf text tree → IsFaultOf text code at → ⊥
