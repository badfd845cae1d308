use Rattle.std.proofs.Common.{◌∙◌, arith}
use Rattle.station_ports.specs.Lists.{has_name}
use Rattle.station_ports.proofs.Entries.{set_at, set_last}
use Rattle.station_ports.proofs.lists.set_file.Goals as goal

pub returns-then-at-len-clause-set : goal.returns-then-at-len-clause-set
returns-then-at-len-clause-set c =
    set_at (has_name c.args.entry.name) c.args.entry c.args.entries.now.items c.file_place-at.result (rw c.deref.ensures.value at c.file_place-at.ensures) (omega (arith, c.len.ensures))

pub returns-in_ok-push-clause-set : goal.returns-in_ok-push-clause-set
returns-in_ok-push-clause-set c =
    c.in_ok-push.ensures.items ∙ set_last (has_name c.args.entry.name) c.args.entry c.args.entries.now.items c.file_place-at.result (rw c.deref.ensures.value at c.file_place-at.ensures) (omega (arith, c.len.ensures))
