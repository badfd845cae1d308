use Rattle.std.proofs.Common.{◌∙◌}
use Rattle.interval_domain.specs.Selection.{greatest_of, max_row}
use Rattle.interval_domain.specs.Laws.{of_two}
use Rattle.interval_domain.proofs.Choices.{held-max, larger-max}
use Rattle.interval_domain.proofs.Shapes.{sound-plain, whole-grows, grows-two}
use Rattle.interval_domain.proofs.selection.max.Goals as goal

pub returns-clause-raw : goal.returns-clause-raw
returns-clause-raw c = c.plain.ensures.raw ∙ c.max_bounds.ensures

pub returns-clause-result : goal.returns-clause-result
returns-clause-result c = c.plain.ensures.result ∙ c.max_bounds.ensures

pub returns-clause-sound : goal.returns-clause-sound
returns-clause-sound c =
    sound-plain (of_two greatest_of c.args.a c.args.b) (max_row c.args.a c.args.b) _ _
    (returns-clause-raw c) (returns-clause-result c) (held-max c.args.a c.args.b)

pub returns-clause-monotone : goal.returns-clause-monotone
returns-clause-monotone c =
    grows-two max_row (λ i. i) whole-grows c.args.a c.args.b _ _ (returns-clause-raw c) (returns-clause-result c)
    (larger-max c.args.a c.args.b)
