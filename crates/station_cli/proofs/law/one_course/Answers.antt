use Rattle.station_cli.proofs.Reported.{one_course}
use Rattle.station_cli.proofs.law.one_course.Goals as goal

pub returns : goal.returns
returns c = one_course c.one_report.ensures
