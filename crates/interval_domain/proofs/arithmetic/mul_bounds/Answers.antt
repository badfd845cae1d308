use Rattle.std.proofs.Common.{rules}
use Rattle.interval_domain.specs.Arithmetic.{mul_at}
use Rattle.interval_domain.proofs.Words.{strict-at}
use Rattle.interval_domain.proofs.arithmetic.mul_bounds.Goals as goal

pub returns-in-Some-Some-clause-value : goal.returns-in-Some-Some-clause-value
returns-in-Some-Some-clause-value c =
    strict-at mul_at _ _ _ _ _ _ _ c.in-Some-Some.ensures.value c.in-Some-Some.ensures'.value
    (search rules) (search rules) (search rules) (search rules) c.mul_at.ensures
