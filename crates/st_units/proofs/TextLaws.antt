-- Each text has one tree or one fault: of the one cut of a text, and of the one file that its
-- tokens spell.
use Rattle.std.proofs.Common.{◌≡◌, ◌⊎◌, ℕ, List, refl, sym, ap, subst, ◌∙◌, inl, inr}
use Rattle.iec_tables.specs.declared.fault.FaultCode.{FaultCode}
use Rattle.token_grammar.specs.declared.token.Token.{Token}
use Rattle.st_lexer.specs.Cut.{IsCut, IsFault}
use Rattle.st_lexer.specs.Laws.{SomeCut, OneCut, OneFault, NotBoth}
use Rattle.st_tree.specs.declared.file.FilePart.{FilePart}
use Rattle.st_tree.specs.declared.file.SourceTree.{SourceTree}
use Rattle.st_units.specs.Files.{IsFile, IsFileFault}
use Rattle.st_units.specs.SourceTrees.{IsSourceTree, IsTreeOf, IsFaultOf, tree_of, comments_among, SomeTreeOrFault, OneTree, OneTextFault, NoTreeAndFault}
use Rattle.st_units.proofs.FileAnswers.{some_file, one_file, one_file_fault, none_of_both}

module _ (text : List ℕ) where
  abbrev HasOne : Type 0
  HasOne = ((tree : SourceTree) × IsTreeOf text tree)
      ⊎ ((code : FaultCode) × (at : ℕ) × IsFaultOf text code at)

  some_of_file : (tokens : List Token) → IsCut text tokens
      → ((parts : List FilePart) × IsFile text tokens parts)
      ⊎ ((code : FaultCode) × (at : ℕ) × IsFileFault text tokens code at)
      → HasOne
  some_of_file tokens cut (inl (parts, spelled)) =
      inl (
        tree_of text (comments_among tokens) parts,
        (tokens, cut, record { parts = parts; spelled = spelled; tree_is = refl }),
      )
  some_of_file tokens cut (inr (code, at, fault)) = inr (code, at, inl (tokens, cut, fault))

  some_of_cut : ((tokens : List Token) × IsCut text tokens)
      ⊎ ((code : FaultCode) × (place : ℕ) × IsFault text code place) → HasOne
  some_of_cut (inl (tokens, cut)) = some_of_file tokens cut (some_file text tokens)
  some_of_cut (inr (code, place, fault)) = inr (code, place, inr fault)

pub some_tree_or_fault : SomeCut → SomeTreeOrFault
some_tree_or_fault some text = some_of_cut text (some text)

one_of_tokens : (text : List ℕ) (tokens : List Token) (tree other : SourceTree)
    → IsSourceTree text tokens tree → IsSourceTree text tokens other → tree ≡ other
one_of_tokens text tokens tree other a b =
    a.tree_is ∙ ap (tree_of text (comments_among tokens))
    (one_file text tokens a.parts b.parts a.spelled b.spelled)
    ∙ sym b.tree_is

pub one_tree : OneCut → OneTree
one_tree one text tree other (tokens, cut, a) (others, again, b) =
    one_of_tokens text tokens tree other a
    (subst (λ (ts : List Token). IsSourceTree text ts other)
    (one text others tokens again cut) b)

pub one_text_fault : OneCut → OneFault → NotBoth → OneTextFault
one_text_fault one fault not_both text code other at place (inl (tokens, cut, a))
    (inl (others, again, b)) =
    one_file_fault text tokens code other at place a
    (subst (λ (ts : List Token). IsFileFault text ts other place)
    (one text others tokens again cut) b)
one_text_fault one fault not_both text code other at place (inl (tokens, cut, a)) (inr b) =
    absurd (not_both text tokens other place cut b)
one_text_fault one fault not_both text code other at place (inr a) (inl (tokens, cut, b)) =
    absurd (not_both text tokens code at cut a)
one_text_fault one fault not_both text code other at place (inr a) (inr b) =
    fault text code other at place a b

pub no_tree_and_fault : OneCut → NotBoth → NoTreeAndFault
no_tree_and_fault one not_both text tree code at (tokens, cut, a) (inl (others, again, b)) =
    none_of_both text tokens a.parts code at a.spelled
    (subst (λ (ts : List Token). IsFileFault text ts code at)
    (one text others tokens again cut) b)
no_tree_and_fault one not_both text tree code at (tokens, cut, a) (inr b) =
    not_both text tokens code at cut b
