use Rattle.std.proofs.Common.{rules, ◌≡◌}
use Rattle.interval_domain.specs.Comparison.{cut_row}
use Rattle.interval_domain.proofs.Tests.{laws-cut}
use Rattle.interval_domain.proofs.comparison.cut.Goals as goal

pub returns-in-Some-Some-clause-laws : goal.returns-in-Some-Some-clause-laws
returns-in-Some-Some-clause-laws c =
    let value : c.cut_bounds.result ≡ cut_row c.args.op c.args.own c.args.other = search rules in
    laws-cut _ _ _ _ c.bounds-2.ensures.whole value
