use Rattle.std.proofs.Common.{rules}
use Rattle.interval_domain.specs.Shifts.{shr_at}
use Rattle.interval_domain.proofs.Words.{strict-at}
use Rattle.interval_domain.proofs.shifts.shr_bounds.Goals as goal

pub returns-in-Some-Some : goal.returns-in-Some-Some
returns-in-Some-Some c =
    strict-at (shr_at c.args.width) _ _ _ _ _ _ _ c.in-Some-Some.ensures.value c.in-Some-Some.ensures'.value
    (search rules) (search rules) (search rules) (search rules) c.shr_at.ensures
