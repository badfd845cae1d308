use Rattle.station_core.proofs.station.Station.read.Goals as goal

pub returns-in-Report-clause-answer : goal.returns-in-Report-clause-answer
returns-in-Report-clause-answer g c own = rw c.in-Report.is (c.report_at.ensures.answer own c.in-Report.project)
