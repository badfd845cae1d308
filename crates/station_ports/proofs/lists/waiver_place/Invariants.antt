use Rattle.std.proofs.Common.{◌≡◌, ◌+◌, drop}
use Rattle.std.specs.List.{position_or_len}
use Rattle.station_ports.specs.Lists.{has_key}
use Rattle.station_ports.proofs.lists.waiver_place.Given as goal

abbrev pub invariant-loop-entry : goal.invariant-loop-entry
invariant-loop-entry l =
    let test = has_key (record { code = l.code; unit = l.unit; subject = l.subject }) in
    (l.at ≡ l.entry-index)
    × (position_or_len test l.entries ≡ l.at + position_or_len test (drop l.entry-index l.entries))
