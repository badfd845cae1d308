use Rattle.station_core.proofs.Callers.{replies_agree}
use Rattle.station_core.proofs.law.replies_agree.Goals as goal

pub returns : goal.returns
returns g c = replies_agree g.R.Reviewer.reports g.R.Reviewer.one
