use Rattle.std.proofs.Common.{◌∙◌, ap}
use Rattle.interval_domain.specs.Interval.{Interval}
use Rattle.interval_domain.specs.Operators.{kept, typed}
use Rattle.interval_domain.specs.Arithmetic.{product_of, mul_raw}
use Rattle.interval_domain.specs.Laws.{of_two}
use Rattle.interval_domain.proofs.Products.{held-mul, least-mul, larger-mul}
use Rattle.interval_domain.proofs.Shapes.{sound-typed, best, typed-grows, grows-two}
use Rattle.interval_domain.proofs.arithmetic.mul.Goals as goal

pub returns-clause-raw : goal.returns-clause-raw
returns-clause-raw c = c.typed.ensures.raw ∙ c.mul_bounds.ensures.value

pub returns-clause-result : goal.returns-clause-result
returns-clause-result c = c.typed.ensures.result ∙ ap (λ (i : Interval). typed c.args.t i) c.mul_bounds.ensures.value

pub returns-clause-sound : goal.returns-clause-sound
returns-clause-sound c =
    sound-typed (of_two product_of c.args.a c.args.b) c.args.t (mul_raw c.args.a c.args.b) _ _ (returns-clause-raw c)
    (returns-clause-result c)
    (held-mul c.args.a c.args.b)

pub returns-clause-best : goal.returns-clause-best
returns-clause-best c =
    best (of_two product_of c.args.a c.args.b) kept (mul_raw c.args.a c.args.b) _ (returns-clause-raw c)
    (least-mul c.args.a c.args.b c.mul_bounds.ensures.ordered.0 c.mul_bounds.ensures.ordered.1)

pub returns-clause-monotone : goal.returns-clause-monotone
returns-clause-monotone c =
    grows-two mul_raw (typed c.args.t) (typed-grows c.args.t) c.args.a c.args.b _ _ (returns-clause-raw c)
    (returns-clause-result c)
    (larger-mul c.args.a c.args.b c.mul_bounds.ensures.ordered.0 c.mul_bounds.ensures.ordered.1)
