use Rattle.std.proofs.Common.{rules, ◌∙◌, arith, ◌-ℤ◌}
use Rattle.std.proofs.lemmas.Int.{ints}
use Rattle.interval_domain.specs.Interval.{Span}
use Rattle.interval_domain.specs.Operators.{difference_of}
use Rattle.interval_domain.proofs.Bounds.{kept-le}
use Rattle.interval_domain.proofs.Words.{kept-back, le-by}
use Rattle.interval_domain.proofs.operators.sub_at.Goals as goal

pub ordered-requires : goal.ordered-requires
ordered-requires c =
    let low = kept-back difference_of _ c.args.a c.args.d
    (search rules) c.ranges.a c.ranges.d c.kept_difference.ensures in
    let high = kept-back difference_of _ c.args.b c.args.c
    (search rules) c.ranges.b c.ranges.c c.kept_difference-2.ensures in
    le-by _ _ _ _ low high (kept-le (c.args.a -ℤ c.args.d) (c.args.b -ℤ c.args.c)
    (omega (arith, ints, c.requires.left, c.requires.right)))

pub returns : goal.returns
returns c =
    let low = kept-back difference_of _ c.args.a c.args.d
    (search rules) c.ranges.a c.ranges.d c.kept_difference.ensures in
    let high = kept-back difference_of _ c.args.b c.args.c
    (search rules) c.ranges.b c.ranges.c c.kept_difference-2.ensures in
    c.ordered.ensures ∙ (λ n. Span (low n) (high n))
