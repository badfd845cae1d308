use Rattle.std.proofs.Common.{subst, sym}
use Rattle.station_ports.specs.declared.lists.Waiver.{Waiver}
use Rattle.station_ports.specs.Lists.{KeysApart, has_key, key_of}
use Rattle.station_ports.proofs.Entries.{set_or_not, placed_apart, by_key}
use Rattle.station_ports.proofs.lists.WaiverList.set.Goals as goal

pub invariant_of-self : goal.invariant_of-self
invariant_of-self c =
    set_or_not c.set_waiver.result c.set_waiver.ensures.set c.set_waiver.ensures.refused
    (λ e. subst KeysApart (sym e) (placed_apart (λ (one : Waiver). has_key (key_of one)) by_key c.args.waiver c.self.inside.entries.items c.self.invariant))
    (λ e. rw e c.self.invariant)
