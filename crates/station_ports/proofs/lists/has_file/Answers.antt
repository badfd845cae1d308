use Rattle.station_ports.specs.Lists.{has_name}
use Rattle.station_ports.proofs.Entries.{has_at}
use Rattle.station_ports.proofs.lists.has_file.Goals as goal

pub returns : goal.returns
returns c = has_at (has_name c.args.name.now) c.args.entries.now c.file_place.result c.file_place.ensures
