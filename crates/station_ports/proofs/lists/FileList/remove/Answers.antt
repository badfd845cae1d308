use Rattle.std.proofs.Common.{arith}
use Rattle.station_ports.specs.declared.lists.FileEntry.{FileEntry}
use Rattle.station_ports.specs.Lists.{has_name}
use Rattle.station_ports.proofs.Entries.{out_apart, out_length}
use Rattle.station_ports.proofs.lists.FileList.remove.Goals as goal

pub invariant_of-self : goal.invariant_of-self
invariant_of-self c =
    let files = c.self.inside.entries.items in
    rw c.remove_file.ensures (
      out_apart (λ (one : FileEntry). has_name one.name) (has_name c.args.name.now) files c.self.invariant.0,
      omega (arith, out_length (has_name c.args.name.now) files, c.self.invariant.1),
    )
