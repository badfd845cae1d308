use Rattle.std.proofs.Common.{subst, List}
use Rattle.std.specs.Prelude.{ℤ}
use Rattle.interval_domain.specs.Grid.{IsGrid}
use Rattle.station_cli.proofs.Made.{is_report}
use Rattle.station_cli.proofs.report.analysed.Goals as goal

pub returns : goal.returns
returns g c = λ text is.
    is_report c.args.name.now text c.args.tree.now c.in_ok-component.component c.in_ok-grid.grid c.in_ok-solution.solution c.in_ok-alarms.alarms c.in_ok-ranges.ranges c.report_of.result is
    (record {
      planned = c.in_ok-component.ensures.component is.unit is.units is.uses;
      writes = c.in_ok-component.ensures.writes is.unit is.units is.uses;
      grid_is = subst (λ (literals : List ℤ). IsGrid literals c.in_ok-grid.grid) c.as_slice.ensures c.in_ok-grid.ensures;
      solution = c.in_ok-solution.ensures.solution;
      alarms = c.in_ok-solution.ensures.alarms;
      ordered = c.in_ok-solution.ensures.ordered;
      ranges = c.in_ok-solution.ensures.ranges;
    })
    (rw c.deref.ensures.value at (c.in_ok-alarms.ensures text is)) c.in_ok-ranges.ensures
    (record {
      alarms = c.report_of.ensures.alarms;
      ranges = c.report_of.ensures.ranges;
      counted = c.report_of.ensures.counted;
      analysed = c.report_of.ensures.analysed;
      waived = c.report_of.ensures.waived;
    })
