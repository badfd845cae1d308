use Rattle.std.proofs.Common.{◌≡◌}
use Rattle.interval_domain.specs.Comparison.{may_hold, opposite}
use Rattle.interval_domain.proofs.Tests.{yes-occurs, no-occurs, flags-larger}
use Rattle.interval_domain.proofs.comparison.compare.Goals as goal

pub returns-clause-yes : goal.returns-clause-yes
returns-clause-yes c = yes-occurs _ _ _ _ c.may_hold.ensures.ordered c.may_hold.ensures.value

pub returns-clause-no : goal.returns-clause-no
returns-clause-no c =
    let no : c.may_hold-2.result ≡ may_hold (opposite c.args.op) c.args.a c.args.b = cc in
    no-occurs _ _ _ _ c.may_hold.ensures.ordered no

pub returns-clause-larger : goal.returns-clause-larger
returns-clause-larger c =
    let no : c.may_hold-2.result ≡ may_hold (opposite c.args.op) c.args.a c.args.b = cc in
    flags-larger _ _ _ _ _ c.may_hold.ensures.ordered c.may_hold.ensures.value no
