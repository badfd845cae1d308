use Rattle.std.proofs.Common.{◌≡◌, ◌+◌, drop}
use Rattle.std.specs.List.{position_or_len}
use Rattle.station_ports.specs.Lists.{has_name}
use Rattle.station_ports.proofs.lists.file_place.Given as goal

abbrev pub invariant-loop-entry : goal.invariant-loop-entry
invariant-loop-entry l =
    (l.at ≡ l.entry-index)
    × (position_or_len (has_name l.name) l.entries ≡ l.at + position_or_len (has_name l.name) (drop l.entry-index l.entries))
