use Rattle.std.proofs.Common.{rules}
use Rattle.interval_domain.specs.Bits.{pattern_at, xor_of, xor_other}
use Rattle.interval_domain.proofs.Words.{strict-at}
use Rattle.interval_domain.proofs.bits.xor_bounds.Goals as goal

pub returns-in-Some-Some : goal.returns-in-Some-Some
returns-in-Some-Some c =
    strict-at (pattern_at xor_of xor_other) _ _ _ _ _ _ _ c.in-Some-Some.ensures.value c.in-Some-Some.ensures'.value
    (search rules) (search rules) (search rules) (search rules) c.xor_at.ensures
