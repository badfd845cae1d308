use Rattle.std.proofs.Common.{◌∙◌, ap}
use Rattle.interval_domain.specs.Interval.{Interval}
use Rattle.interval_domain.specs.Operators.{kept, typed}
use Rattle.interval_domain.specs.Arithmetic.{negation_of, neg_raw}
use Rattle.interval_domain.specs.Laws.{of_one}
use Rattle.interval_domain.proofs.Signs.{held-neg, least-neg, larger-neg}
use Rattle.interval_domain.proofs.Shapes.{sound-typed, best, typed-grows, grows-one}
use Rattle.interval_domain.proofs.arithmetic.neg.Goals as goal

pub returns-clause-raw : goal.returns-clause-raw
returns-clause-raw c = c.typed.ensures.raw ∙ c.neg_bounds.ensures.value

pub returns-clause-result : goal.returns-clause-result
returns-clause-result c = c.typed.ensures.result ∙ ap (λ (i : Interval). typed c.args.t i) c.neg_bounds.ensures.value

pub returns-clause-sound : goal.returns-clause-sound
returns-clause-sound c =
    sound-typed (of_one negation_of c.args.a) c.args.t (neg_raw c.args.a) _ _ (returns-clause-raw c)
    (returns-clause-result c)
    (held-neg c.args.a)

pub returns-clause-best : goal.returns-clause-best
returns-clause-best c =
    best (of_one negation_of c.args.a) kept (neg_raw c.args.a) _ (returns-clause-raw c)
    (least-neg c.args.a c.neg_bounds.ensures.ordered)

pub returns-clause-monotone : goal.returns-clause-monotone
returns-clause-monotone c =
    grows-one neg_raw (typed c.args.t) (typed-grows c.args.t) c.args.a _ _ (returns-clause-raw c)
    (returns-clause-result c)
    (larger-neg c.args.a c.neg_bounds.ensures.ordered)
