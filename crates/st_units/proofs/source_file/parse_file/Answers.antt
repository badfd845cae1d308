use Rattle.std.proofs.Common.{◌≡◌, List, sym, ap, subst, ◌∙◌}
use Rattle.std.specs.List.Sorted.{IsNonDecreasing}
use Rattle.token_grammar.specs.declared.token.Token.{Token}
use Rattle.st_units.specs.SourceTrees.{comments_among, starts_of}
use Rattle.st_units.proofs.CommentTrees.{comments_rise}
use Rattle.st_units.proofs.source_file.parse_file.Goals as goal

pub tree_of-requires : goal.tree_of-requires
tree_of-requires g c =
    let items = c.in-Ok.tokens.list.items in
    let same : c.deref-3.result.now ≡ comments_among items =
    c.deref-3.ensures.value ∙ c.in_ok-comments.ensures
    ∙ ap comments_among c.deref-2.ensures.value in
    subst (λ (ts : List Token). IsNonDecreasing (starts_of ts)) (sym same)
    (comments_rise c.args.text.now items c.in-Ok.ensures.answers.1)
