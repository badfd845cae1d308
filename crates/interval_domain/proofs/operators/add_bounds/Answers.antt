use Rattle.std.proofs.Common.{rules}
use Rattle.interval_domain.specs.Operators.{add_at}
use Rattle.interval_domain.proofs.Words.{strict-at}
use Rattle.interval_domain.proofs.operators.add_bounds.Goals as goal

pub returns-in-Some-Some-clause-value : goal.returns-in-Some-Some-clause-value
returns-in-Some-Some-clause-value c =
    strict-at add_at _ _ _ _ _ _ _ c.in-Some-Some.ensures.value c.in-Some-Some.ensures'.value
    (search rules) (search rules) (search rules) (search rules) c.add_at.ensures
