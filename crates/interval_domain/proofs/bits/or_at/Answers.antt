use Rattle.std.proofs.Common.{rules}
use Rattle.interval_domain.specs.Bits.{or_of, or_other}
use Rattle.interval_domain.proofs.Words.{pattern-back}
use Rattle.interval_domain.proofs.bits.or_at.Goals as goal

pub returns : goal.returns
returns c =
    pattern-back or_of or_other _ _ _ c.args.a c.args.b c.args.c c.args.d
    (search rules) c.ranges.a c.ranges.b c.ranges.c c.ranges.d c.exact_or.ensures c.or_of.ensures
    c.up_from_greater.ensures
