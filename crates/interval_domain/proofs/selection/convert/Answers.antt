use Rattle.interval_domain.specs.Operators.{typed}
use Rattle.interval_domain.specs.Laws.{of_one, same, whole}
use Rattle.interval_domain.proofs.Choices.{held-whole, least-whole}
use Rattle.interval_domain.proofs.Shapes.{sound-converted, best, typed-grows, grows-one}
use Rattle.interval_domain.proofs.selection.convert.Goals as goal

pub returns-clause-raw : goal.returns-clause-raw
returns-clause-raw c = c.typed.ensures.raw

pub returns-clause-result : goal.returns-clause-result
returns-clause-result c = c.typed.ensures.result

pub returns-clause-sound : goal.returns-clause-sound
returns-clause-sound c =
    sound-converted (of_one same c.args.a) c.args.to c.args.a _ _ (returns-clause-raw c) (returns-clause-result c)
    (held-whole c.args.a)

pub returns-clause-best : goal.returns-clause-best
returns-clause-best c =
    best (of_one same c.args.a) same c.args.a _ (returns-clause-raw c) (least-whole c.args.a c.typed.ensures.ordered)

pub returns-clause-monotone : goal.returns-clause-monotone
returns-clause-monotone c =
    grows-one whole (typed c.args.to) (typed-grows c.args.to) c.args.a _ _ (returns-clause-raw c)
    (returns-clause-result c)
    (λ k h. h)
