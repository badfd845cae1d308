use Rattle.std.proofs.Common.{rules, ◌∙◌}
use Rattle.interval_domain.specs.Arithmetic.{negation_of}
use Rattle.interval_domain.specs.Interval.{Span}
use Rattle.interval_domain.specs.Operators.{kept}
use Rattle.interval_domain.proofs.Signs.{neg-ordered}
use Rattle.interval_domain.proofs.Words.{one-back, le-by}
use Rattle.interval_domain.proofs.arithmetic.neg_at.Goals as goal

pub ordered-requires : goal.ordered-requires
ordered-requires c =
    let low = one-back (λ z. kept (negation_of z)) _ c.args.b (search rules) c.ranges.b c.kept_negation.ensures in
    let high = one-back (λ z. kept (negation_of z)) _ c.args.a (search rules) c.ranges.a c.kept_negation-2.ensures in
    le-by _ _ _ _ low high (neg-ordered c.args.a c.args.b c.requires)

pub returns : goal.returns
returns c =
    let low = one-back (λ z. kept (negation_of z)) _ c.args.b (search rules) c.ranges.b c.kept_negation.ensures in
    let high = one-back (λ z. kept (negation_of z)) _ c.args.a (search rules) c.ranges.a c.kept_negation-2.ensures in
    c.ordered.ensures ∙ (λ n. Span (low n) (high n))
