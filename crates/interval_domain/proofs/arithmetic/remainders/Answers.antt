use Rattle.std.proofs.Common.{rules, ◌<◌, arith, FitsSigned}
use Rattle.std.proofs.lemmas.Int.{to_z-of_z}
use mir.Syntax.{w128}
use Rattle.interval_domain.proofs.Remainders.{remainders-of}
use Rattle.interval_domain.proofs.arithmetic.remainders.Goals as goal

pub returns-else-size-eq0 : goal.returns-else-size-eq0
returns-else-size-eq0 c =
    let some : 0 < c.args.size = omega arith in
    let f0 : FitsSigned w128 c.args.low = search rules in
    let e0 = to_z-of_z w128 c.args.low f0 in
    let f1 : FitsSigned w128 c.args.high = search rules in
    let e1 = to_z-of_z w128 c.args.high f1 in
    let f2 : FitsSigned w128 c.least_remainder.result = search rules in
    let e2 = to_z-of_z w128 c.least_remainder.result f2 in
    let f3 : FitsSigned w128 c.greatest_remainder.result = search rules in
    let e3 = to_z-of_z w128 c.greatest_remainder.result f3 in
    let whole = remainders-of c.args.low c.args.high c.args.size some in
    cc
