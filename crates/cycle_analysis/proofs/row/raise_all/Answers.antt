use Rattle.std.proofs.Common.{◌≡◌, arith}
use Rattle.interval_domain.specs.Interval.{hull}
use Rattle.interval_domain.specs.Grid.{rounded}
use Rattle.cycle_analysis.specs.Pass.{at}
use Rattle.cycle_analysis.specs.Rows.{raised}
use Rattle.cycle_analysis.proofs.Rows.{raise_more, raise_same}
use Rattle.cycle_analysis.proofs.row.raise_all.Goals as goal
use Rattle.cycle_analysis.proofs.row.raise_all.Goals.{in-Some, in_default}

pub loop-place-preserved : goal.loop-place-preserved
loop-place-preserved c =
    let was : at c.loop-place.intervals c.loop-place.place ≡ at c.args.intervals.now c.loop-place.place = c.loop-place.invariant.value.rest c.loop-place.place (omega arith) in
    let here : hull c.interval_at-old.result c.round.result ≡ raised c.args.grid.now c.args.intervals.now c.args.others.now c.loop-place.place =
    let a : c.interval_at-old.result ≡ at c.loop-place.intervals c.loop-place.place = c.interval_at-old.ensures in
    let b : c.interval_at.result ≡ at c.args.others.now c.loop-place.place = c.interval_at.ensures in
    let r : c.round.result ≡ rounded c.args.grid.now c.interval_at.result = c.round.ensures.value in
    cc in
    elim c.match-widened.branch [
      | in-Some w ↦
          let e : w.in-Some.interval ≡ hull c.interval_at-old.result c.round.result = w.in-Some.ensures.0 in
          raise_more _ _ _ _ _ _ _ c.interval_at-old.result w.in-Some.interval (omega arith) c.interval_at-old.ensures (cc) w.in-Some.ensures.1 (cc) w.grown-is c.loop-place.invariant
      | in_default w ↦
          let e : c.interval_at-old.result ≡ hull c.interval_at-old.result c.round.result = w.in_default.ensures in
          let a : c.interval_at-old.result ≡ at c.loop-place.intervals c.loop-place.place = c.interval_at-old.ensures in
          raise_same _ _ _ _ _ _ _ (cc) w.intervals-is w.grown-is c.loop-place.invariant
    ]
