use Rattle.std.proofs.Common.{rules}
use Rattle.interval_domain.specs.Bits.{xor_of, xor_other}
use Rattle.interval_domain.proofs.Words.{pattern-back}
use Rattle.interval_domain.proofs.bits.xor_at.Goals as goal

pub returns : goal.returns
returns c =
    pattern-back xor_of xor_other _ _ _ c.args.a c.args.b c.args.c c.args.d
    (search rules) c.ranges.a c.ranges.b c.ranges.c c.ranges.d c.exact_or.ensures c.xor_of.ensures
    c.up_to_ones.ensures
