use Rattle.std.proofs.Common.{rules, ◌≡◌, FitsSigned, ap, ◌∙◌, false, of_z, sym, if◌then◌else◌}
use Rattle.std.proofs.lemmas.Int.{to_z-of_z}
use mir.Syntax.{w128}
use Rattle.interval_domain.specs.Interval.{span}
use Rattle.std.specs.Ordering.{int_eq}
use Rattle.interval_domain.specs.Comparison.{without}
use Rattle.interval_domain.proofs.Orders.{eq-no}
use Rattle.interval_domain.proofs.comparison.different.Goals as goal

pub returns-else-c-d : goal.returns-else-c-d
returns-else-c-d c =
    let unequal : int_eq c.args.c c.args.d ≡ false = eq-no c.args.c c.args.d
    (λ e. c.if-c-d.false (ap (of_z w128) e)) in
    let f0 : FitsSigned w128 c.args.a = search rules in
    let e0 = to_z-of_z w128 c.args.a f0 in
    let f1 : FitsSigned w128 c.args.b = search rules in
    let e1 = to_z-of_z w128 c.args.b f1 in
    c.of.ensures ∙ (λ n. span (e0 n) (e1 n))
    ∙ sym (ap (λ t. if t then without c.args.a c.args.b c.args.c else span c.args.a c.args.b) unequal)
