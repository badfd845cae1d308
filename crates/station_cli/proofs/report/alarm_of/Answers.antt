use Rattle.std.proofs.Common.{◌∙◌}
use Rattle.station_cli.proofs.report.alarm_of.Goals as goal

pub returns-clause-under : goal.returns-clause-under
returns-clause-under c = λ numbered unit there in_body.
    let h = c.unit_and_subject.ensures numbered unit there in_body in
    record {
      stmt = in_body.stmt;
      there = in_body.there;
      holds = in_body.holds;
      unit_is = c.in_ok-name_of.ensures ∙ h.0;
      subject_is = c.in_ok-name_of-2.ensures ∙ h.1;
    }
