use Rattle.station_core.proofs.Replies.{known_name, known_is}
use Rattle.station_core.proofs.station.Station.command.Goals as goal

pub answered-requires-clause-caller : goal.answered-requires-clause-caller
answered-requires-clause-caller g c =
    known_name c.args.self.now.settings.callers c.args.caller.now c.args.self.now.callers (known_is _ c.is_known.result c.if-not-is_known.false c.is_known.ensures)
