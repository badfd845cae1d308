use Rattle.std.proofs.Common.{rules, ◌≡◌, FitsSigned, List, ℤ, subst}
use Rattle.std.proofs.lemmas.Int.{to_z-of_z}
use mir.Syntax.{w128}
use Rattle.interval_domain.specs.Interval.{Span}
use Rattle.interval_domain.specs.Grid.{IsRounder}
use Rattle.interval_domain.proofs.Rounding.{rounded-spans, wider-at, grows-at}
use Rattle.interval_domain.proofs.OnGrid.{on_grid-at, least-at, hulls-at}
use Rattle.interval_domain.proofs.grid.Grid.round.Goals as goal

pub returns-in-Some-clause-value : goal.returns-in-Some-clause-value
returns-in-Some-clause-value c =
    let whole : c.args.i ≡ Span c.in-Some.low c.in-Some.high = c.in-Some.ensures.value in
    let f0 : FitsSigned w128 c.in-Some.low = search rules in
    let e0 = to_z-of_z w128 c.in-Some.low f0 in
    let f1 : FitsSigned w128 c.in-Some.high = search rules in
    let e1 = to_z-of_z w128 c.in-Some.high f1 in
    let f2 : FitsSigned w128 c.floor.result = search rules in
    let e2 = to_z-of_z w128 c.floor.result f2 in
    let f3 : FitsSigned w128 c.ceiling.result = search rules in
    let e3 = to_z-of_z w128 c.ceiling.result f3 in
    let spans = rounded-spans c.args.self.now c.in-Some.low c.in-Some.high c.in-Some.ensures.ordered in
    cc

pub returns-in-Some-clause-wider : goal.returns-in-Some-clause-wider
returns-in-Some-clause-wider c =
    let value : goal.returns-in-Some-clause-value = returns-in-Some-clause-value in
    wider-at c.args.self.now _ _ (value c)

pub returns-in-Some-clause-larger : goal.returns-in-Some-clause-larger
returns-in-Some-clause-larger c =
    let value : goal.returns-in-Some-clause-value = returns-in-Some-clause-value in
    grows-at c.args.self.now _ _ (value c)

pub returns-in-Some-clause-on_grid : goal.returns-in-Some-clause-on_grid
returns-in-Some-clause-on_grid c =
    let value : goal.returns-in-Some-clause-value = returns-in-Some-clause-value in
    on_grid-at c.args.self.now _ _ (subst (λ (g : List ℤ). IsRounder g) c.self.view_is c.self.invariant) (value c)

pub returns-in-Some-clause-least : goal.returns-in-Some-clause-least
returns-in-Some-clause-least c =
    let value : goal.returns-in-Some-clause-value = returns-in-Some-clause-value in
    least-at c.args.self.now _ _ (subst (λ (g : List ℤ). IsRounder g) c.self.view_is c.self.invariant) (value c)

pub returns-in-Some-clause-hulls : goal.returns-in-Some-clause-hulls
returns-in-Some-clause-hulls c =
    let value : goal.returns-in-Some-clause-value = returns-in-Some-clause-value in
    hulls-at c.args.self.now _ _ (value c)
