use Rattle.std.proofs.Common.{◌∙◌, ap}
use Rattle.interval_domain.specs.Interval.{Interval}
use Rattle.interval_domain.specs.Operators.{kept, typed}
use Rattle.interval_domain.specs.Arithmetic.{quotient_of, div_raw}
use Rattle.interval_domain.specs.Laws.{of_division}
use Rattle.interval_domain.proofs.Quotients.{held-div, least-div, larger-div}
use Rattle.interval_domain.proofs.Shapes.{sound-typed, best, typed-grows, grows-two}
use Rattle.interval_domain.proofs.arithmetic.div.Goals as goal

pub returns-clause-raw : goal.returns-clause-raw
returns-clause-raw c = c.typed.ensures.raw ∙ c.div_bounds.ensures.value

pub returns-clause-result : goal.returns-clause-result
returns-clause-result c = c.typed.ensures.result ∙ ap (λ (i : Interval). typed c.args.t i) c.div_bounds.ensures.value

pub returns-clause-sound : goal.returns-clause-sound
returns-clause-sound c =
    sound-typed (of_division quotient_of c.args.a c.args.b) c.args.t (div_raw c.args.a c.args.b) _ _
    (returns-clause-raw c) (returns-clause-result c)
    (held-div c.args.a c.args.b)

pub returns-clause-best : goal.returns-clause-best
returns-clause-best c =
    best (of_division quotient_of c.args.a c.args.b) kept (div_raw c.args.a c.args.b) _ (returns-clause-raw c)
    (least-div c.args.a c.args.b c.div_bounds.ensures.ordered.0)

pub returns-clause-monotone : goal.returns-clause-monotone
returns-clause-monotone c =
    grows-two div_raw (typed c.args.t) (typed-grows c.args.t) c.args.a c.args.b _ _ (returns-clause-raw c)
    (returns-clause-result c)
    (larger-div c.args.a c.args.b c.div_bounds.ensures.ordered.0)
