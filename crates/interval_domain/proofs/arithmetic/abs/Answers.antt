use Rattle.std.proofs.Common.{◌∙◌, ap}
use Rattle.interval_domain.specs.Interval.{Interval}
use Rattle.interval_domain.specs.Operators.{kept, typed}
use Rattle.interval_domain.specs.Arithmetic.{size_of, abs_raw}
use Rattle.interval_domain.specs.Laws.{of_one}
use Rattle.interval_domain.proofs.Signs.{held-abs, least-abs, larger-abs}
use Rattle.interval_domain.proofs.Shapes.{sound-typed, best, typed-grows, grows-one}
use Rattle.interval_domain.proofs.arithmetic.abs.Goals as goal

pub returns-clause-raw : goal.returns-clause-raw
returns-clause-raw c = c.typed.ensures.raw ∙ c.abs_bounds.ensures.value

pub returns-clause-result : goal.returns-clause-result
returns-clause-result c = c.typed.ensures.result ∙ ap (λ (i : Interval). typed c.args.t i) c.abs_bounds.ensures.value

pub returns-clause-sound : goal.returns-clause-sound
returns-clause-sound c =
    sound-typed (of_one size_of c.args.a) c.args.t (abs_raw c.args.a) _ _ (returns-clause-raw c)
    (returns-clause-result c)
    (held-abs c.args.a)

pub returns-clause-best : goal.returns-clause-best
returns-clause-best c =
    best (of_one size_of c.args.a) kept (abs_raw c.args.a) _ (returns-clause-raw c)
    (least-abs c.args.a c.abs_bounds.ensures.ordered)

pub returns-clause-monotone : goal.returns-clause-monotone
returns-clause-monotone c =
    grows-one abs_raw (typed c.args.t) (typed-grows c.args.t) c.args.a _ _ (returns-clause-raw c)
    (returns-clause-result c)
    (larger-abs c.args.a c.abs_bounds.ensures.ordered)
