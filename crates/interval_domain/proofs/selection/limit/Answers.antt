use Rattle.std.proofs.Common.{◌∙◌, ap}
use Rattle.interval_domain.specs.Interval.{Interval}
use Rattle.interval_domain.specs.Selection.{limited, limit_row, min_row}
use Rattle.interval_domain.specs.Laws.{of_three}
use Rattle.interval_domain.proofs.Choices.{held-limit, larger-limit}
use Rattle.interval_domain.proofs.Shapes.{sound-plain, grows-three}
use Rattle.interval_domain.proofs.selection.limit.Goals as goal

pub returns-clause-raw : goal.returns-clause-raw
returns-clause-raw c =
    c.plain.ensures.raw ∙ c.min_bounds.ensures ∙ ap (λ (i : Interval). min_row i c.args.mx) c.max_bounds.ensures

pub returns-clause-result : goal.returns-clause-result
returns-clause-result c =
    c.plain.ensures.result ∙ c.min_bounds.ensures ∙ ap (λ (i : Interval). min_row i c.args.mx) c.max_bounds.ensures

pub returns-clause-sound : goal.returns-clause-sound
returns-clause-sound c =
    sound-plain (of_three limited c.args.mn c.args.a c.args.mx) (limit_row c.args.mn c.args.a c.args.mx) _ _
    (returns-clause-raw c) (returns-clause-result c) (held-limit c.args.mn c.args.a c.args.mx)

pub returns-clause-monotone : goal.returns-clause-monotone
returns-clause-monotone c =
    grows-three limit_row c.args.mn c.args.a c.args.mx _ _ (returns-clause-raw c) (returns-clause-result c)
    (larger-limit c.args.mn c.args.a c.args.mx)
