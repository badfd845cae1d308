use Rattle.std.proofs.Common.{rules, ◌≡◌, ◌<◌, false, sym, subst, FitsSigned}
use mir.Syntax.{w128}
use Rattle.interval_domain.specs.Interval.{Interval, Span, is_within, hull}
use Rattle.cycle_analysis.specs.Rows.{room}
use Rattle.cycle_analysis.proofs.Rows.{room_less, fits_range}
use Rattle.cycle_analysis.proofs.row.widened.Goals as goal

pub returns-in-Some : goal.returns-in-Some
returns-in-Some c =
    let a : FitsSigned w128 c.in-Some.field-0.0 = search rules in
    let b : FitsSigned w128 c.in-Some.field-0.1 = search rules in
    let r = fits_range c.in-Some.field-0.0 a in
    let s = fits_range c.in-Some.field-0.1 b in
    let j : c.join-joined.result ≡ hull c.args.old c.args.other = c.join-joined.ensures in
    let v : c.join-joined.result ≡ Span c.in-Some.field-0.0 c.in-Some.field-0.1 = c.in-Some.ensures.value in
    let w : is_within c.args.other c.args.old ≡ false = sym c.if-is_within.ensures in
    let e : hull c.args.old c.args.other ≡ Span c.in-Some.field-0.0 c.in-Some.field-0.1 = cc in (
      j,
      subst (λ (i : Interval). room i < room c.args.old) (sym j)
          (room_less c.args.old c.args.other c.in-Some.field-0.0 c.in-Some.field-0.1 w e r.0 r.1 s.0 s.1),
    )
