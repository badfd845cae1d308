use Rattle.std.proofs.Common.{rules, FitsSigned}
use Rattle.std.proofs.lemmas.Int.{to_z-of_z}
use mir.Syntax.{w128}
use Rattle.interval_domain.proofs.Between.{hull_of-spans}
use Rattle.interval_domain.proofs.arithmetic.hull_of.Goals as goal

pub returns : goal.returns
returns c =
    let f0 : FitsSigned w128 c.args.p = search rules in
    let e0 = to_z-of_z w128 c.args.p f0 in
    let f1 : FitsSigned w128 c.args.q = search rules in
    let e1 = to_z-of_z w128 c.args.q f1 in
    let f2 : FitsSigned w128 c.args.r = search rules in
    let e2 = to_z-of_z w128 c.args.r f2 in
    let f3 : FitsSigned w128 c.args.s = search rules in
    let e3 = to_z-of_z w128 c.args.s f3 in
    let f4 : FitsSigned w128 c.min.result = search rules in
    let e4 = to_z-of_z w128 c.min.result f4 in
    let f5 : FitsSigned w128 c.min-2.result = search rules in
    let e5 = to_z-of_z w128 c.min-2.result f5 in
    let f6 : FitsSigned w128 c.min-3.result = search rules in
    let e6 = to_z-of_z w128 c.min-3.result f6 in
    let f7 : FitsSigned w128 c.max.result = search rules in
    let e7 = to_z-of_z w128 c.max.result f7 in
    let f8 : FitsSigned w128 c.max-2.result = search rules in
    let e8 = to_z-of_z w128 c.max-2.result f8 in
    let f9 : FitsSigned w128 c.max-3.result = search rules in
    let e9 = to_z-of_z w128 c.max-3.result f9 in
    let whole = hull_of-spans c.args.p c.args.q c.args.r c.args.s in
    cc
