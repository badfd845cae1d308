use Rattle.std.proofs.Common.{rules}
use Rattle.interval_domain.specs.Bits.{pattern_at}
use Rattle.interval_domain.specs.Shifts.{shl_of, any_pattern}
use Rattle.interval_domain.proofs.Words.{strict-at}
use Rattle.interval_domain.proofs.shifts.shl_bounds.Goals as goal

pub returns-in-Some-Some-clause-value : goal.returns-in-Some-Some-clause-value
returns-in-Some-Some-clause-value c =
    strict-at (pattern_at (shl_of c.args.width) (any_pattern c.args.width)) _ _ _ _ _ _ _ c.in-Some-Some.ensures.value c.in-Some-Some.ensures'.value
    (search rules) (search rules) (search rules) (search rules) c.shl_at.ensures
