use Rattle.std.proofs.Common.{◌≡◌, ◌≤◌, ◌+◌, ◌-◌, ◌^◌, ◌++◌, drop, length, map}
use Rattle.std.specs.Prelude.{min}
use Rattle.iec_tables.specs.Words.{raised_all}
use Rattle.project_keeper.proofs.names.raised.Given as goal

abbrev pub invariant-loop-byte : goal.invariant-loop-byte
invariant-loop-byte l = l.bytes.items ++ raised_all (drop l.byte-index l.name) ≡ raised_all l.name
