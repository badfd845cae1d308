use Rattle.std.proofs.Common.{rules}
use Rattle.interval_domain.specs.Bits.{pattern_at, and_of, and_other}
use Rattle.interval_domain.proofs.Words.{strict-at}
use Rattle.interval_domain.proofs.bits.and_bounds.Goals as goal

pub returns-in-Some-Some : goal.returns-in-Some-Some
returns-in-Some-Some c =
    strict-at (pattern_at and_of and_other) _ _ _ _ _ _ _ c.in-Some-Some.ensures.value c.in-Some-Some.ensures'.value
    (search rules) (search rules) (search rules) (search rules) c.and_at.ensures
