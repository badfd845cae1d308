use Rattle.std.proofs.Common.{◌∙◌, arith}
use Rattle.station_ports.specs.Lists.{has_name}
use Rattle.station_ports.proofs.Entries.{remove_at, remove_none}
use Rattle.station_ports.proofs.lists.remove_file.Goals as goal

pub returns-then-at-len : goal.returns-then-at-len
returns-then-at-len c =
    c.remove.ensures.items ∙ remove_at (has_name c.args.name.now) c.args.entries.now.items c.file_place-at.result (rw c.deref.ensures.value at c.file_place-at.ensures) (omega (arith, c.len.ensures))

pub returns-else-at-len : goal.returns-else-at-len
returns-else-at-len c =
    remove_none (has_name c.args.name.now) c.args.entries.now.items c.file_place-at.result (rw c.deref.ensures.value at c.file_place-at.ensures) (omega (arith, c.len.ensures))
