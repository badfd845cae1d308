use Rattle.std.proofs.Common.{rules, ◌∙◌}
use Rattle.interval_domain.specs.Arithmetic.{quotient_of, hull_of}
use Rattle.interval_domain.proofs.Words.{kept-back}
use Rattle.interval_domain.proofs.arithmetic.quotients_at.Goals as goal

pub returns : goal.returns
returns c =
    let k1 = kept-back quotient_of _ c.args.a c.args.c (search rules) c.ranges.a c.ranges.c c.kept_quotient.ensures in
    let k2 = kept-back quotient_of _ c.args.a c.args.d
    (search rules) c.ranges.a c.ranges.d c.kept_quotient-2.ensures in
    let k3 = kept-back quotient_of _ c.args.b c.args.c
    (search rules) c.ranges.b c.ranges.c c.kept_quotient-3.ensures in
    let k4 = kept-back quotient_of _ c.args.b c.args.d
    (search rules) c.ranges.b c.ranges.d c.kept_quotient-4.ensures in
    c.hull_of.ensures ∙ (λ n. hull_of (k1 n) (k2 n) (k3 n) (k4 n))
