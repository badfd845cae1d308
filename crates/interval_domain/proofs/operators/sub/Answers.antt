use Rattle.std.proofs.Common.{◌∙◌, ap, ℤ, subst}
use Rattle.interval_domain.specs.Interval.{Interval, Holds}
use Rattle.interval_domain.specs.Operators.{kept, typed, difference_of, sub_raw}
use Rattle.interval_domain.specs.Laws.{of_two}
use Rattle.interval_domain.proofs.Laws.{held-sub, least-sub, larger-sub}
use Rattle.interval_domain.proofs.Shapes.{sound-typed, best, typed-grows, grows-two}
use Rattle.interval_domain.proofs.operators.sub.Goals as goal

pub returns-clause-raw : goal.returns-clause-raw
returns-clause-raw c = c.typed.ensures.raw ∙ c.sub_bounds.ensures.value

pub returns-clause-result : goal.returns-clause-result
returns-clause-result c = c.typed.ensures.result ∙ ap (λ (i : Interval). typed c.args.t i) c.sub_bounds.ensures.value

pub returns-clause-sound : goal.returns-clause-sound
returns-clause-sound c =
    sound-typed (of_two difference_of c.args.a c.args.b) c.args.t (sub_raw c.args.a c.args.b) _ _
    (returns-clause-raw c) (returns-clause-result c)
    (λ z (x, y, h, k, e). subst (λ (v : ℤ). Holds (sub_raw c.args.a c.args.b) (kept v)) e
    (held-sub c.args.a c.args.b x y h k))

pub returns-clause-best : goal.returns-clause-best
returns-clause-best c =
    best (of_two difference_of c.args.a c.args.b) kept (sub_raw c.args.a c.args.b) _ (returns-clause-raw c)
    (least-sub c.args.a c.args.b c.sub_bounds.ensures.ordered.0 c.sub_bounds.ensures.ordered.1)

pub returns-clause-monotone : goal.returns-clause-monotone
returns-clause-monotone c =
    grows-two sub_raw (typed c.args.t) (typed-grows c.args.t) c.args.a c.args.b _ _ (returns-clause-raw c)
    (returns-clause-result c)
    (larger-sub c.args.a c.args.b)
