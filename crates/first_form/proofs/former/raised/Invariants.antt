use Rattle.std.proofs.Common.{◌≡◌, take}
use Rattle.std.specs.Prelude.{map}
use Rattle.iec_tables.specs.Letters.{raised}
use Rattle.first_form.proofs.former.raised.Given as goal

abbrev pub invariant-loop-byte : goal.invariant-loop-byte
invariant-loop-byte l = l.name.items ≡ map raised (take l.byte-index l.bytes)
