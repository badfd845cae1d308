use Rattle.std.proofs.Common.{rules, ◌∙◌}
use Rattle.std.specs.Int.{int_min}
use Rattle.interval_domain.specs.Interval.{Span}
use Rattle.interval_domain.proofs.Choices.{min-ordered}
use Rattle.interval_domain.proofs.Words.{two-back, le-by}
use Rattle.interval_domain.proofs.selection.min_at.Goals as goal

pub ordered-requires : goal.ordered-requires
ordered-requires c =
    let low = two-back int_min _ c.args.a c.args.c (search rules) c.ranges.a c.ranges.c c.min.ensures.value in
    let high = two-back int_min _ c.args.b c.args.d (search rules) c.ranges.b c.ranges.d c.min-2.ensures.value in
    le-by _ _ _ _ low high (min-ordered c.args.a c.args.b c.args.c c.args.d c.requires.left c.requires.right)

pub returns : goal.returns
returns c =
    let low = two-back int_min _ c.args.a c.args.c (search rules) c.ranges.a c.ranges.c c.min.ensures.value in
    let high = two-back int_min _ c.args.b c.args.d (search rules) c.ranges.b c.ranges.d c.min-2.ensures.value in
    c.ordered.ensures ∙ (λ n. Span (low n) (high n))
