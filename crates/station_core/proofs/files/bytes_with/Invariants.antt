use Rattle.std.proofs.Common.{◌≡◌, ◌≤◌, ◌+◌, ◌-◌, ◌^◌, drop, cond}
use Rattle.std.specs.Prelude.{min}
use Rattle.station_ports.specs.Lists.{with_file}
use Rattle.station_core.specs.Answer.{bytes_of}
use Rattle.station_core.proofs.files.bytes_with.Given as goal

abbrev pub invariant-loop-file : goal.invariant-loop-file
invariant-loop-file l =
    (l.total ≤ 2 ^ 64 - 1)
    × (min (l.total + cond l.placed (bytes_of (drop l.file-index l.files)) (bytes_of (with_file l.name l.text (drop l.file-index l.files)))) (2 ^ 64 - 1)
    ≡ min (bytes_of (with_file l.name l.text l.files)) (2 ^ 64 - 1))
