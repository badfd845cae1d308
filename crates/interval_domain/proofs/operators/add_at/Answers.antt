use Rattle.std.proofs.Common.{rules, ◌∙◌, arith, ◌+ℤ◌}
use Rattle.std.proofs.lemmas.Int.{ints}
use Rattle.interval_domain.specs.Interval.{Span}
use Rattle.interval_domain.specs.Operators.{sum_of}
use Rattle.interval_domain.proofs.Bounds.{kept-le}
use Rattle.interval_domain.proofs.Words.{kept-back, le-by}
use Rattle.interval_domain.proofs.operators.add_at.Goals as goal

pub ordered-requires : goal.ordered-requires
ordered-requires c =
    let low = kept-back sum_of _ c.args.a c.args.c (search rules) c.ranges.a c.ranges.c c.kept_sum.ensures in
    let high = kept-back sum_of _ c.args.b c.args.d (search rules) c.ranges.b c.ranges.d c.kept_sum-2.ensures in
    le-by _ _ _ _ low high (kept-le (c.args.a +ℤ c.args.c) (c.args.b +ℤ c.args.d)
    (omega (arith, ints, c.requires.left, c.requires.right)))

pub returns : goal.returns
returns c =
    let low = kept-back sum_of _ c.args.a c.args.c (search rules) c.ranges.a c.ranges.c c.kept_sum.ensures in
    let high = kept-back sum_of _ c.args.b c.args.d (search rules) c.ranges.b c.ranges.d c.kept_sum-2.ensures in
    c.ordered.ensures ∙ (λ n. Span (low n) (high n))
