use Rattle.station_ports.specs.Lists.{has_key}
use Rattle.station_ports.proofs.Entries.{has_at}
use Rattle.station_ports.proofs.lists.has_waiver.Goals as goal

pub returns : goal.returns
returns c = has_at (has_key c.args.key.now) c.args.entries.now c.waiver_place.result c.waiver_place.ensures
