use Rattle.station_ports.specs.declared.lists.Waiver.{Waiver}
use Rattle.station_ports.specs.Lists.{has_key, key_of}
use Rattle.station_ports.proofs.Entries.{out_apart}
use Rattle.station_ports.proofs.lists.WaiverList.remove.Goals as goal

pub invariant_of-self : goal.invariant_of-self
invariant_of-self c =
    rw c.remove_waiver.ensures (out_apart (λ (one : Waiver). has_key (key_of one)) (has_key c.args.key.now) c.self.inside.entries.items c.self.invariant)
