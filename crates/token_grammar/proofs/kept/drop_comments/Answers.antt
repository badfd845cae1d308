use Rattle.std.proofs.Common.{rules}
use Rattle.std.proofs.lemmas.List.Elements.{filter_from_retain}
use Rattle.token_grammar.specs.Kept.{is_kept}
use Rattle.token_grammar.proofs.kept.drop_comments.Goals as goal

pub returns : goal.returns
returns c = filter_from_retain _ is_kept (λ p x b q h. search rules) _ _ _ c.retain.ensures.filtered
