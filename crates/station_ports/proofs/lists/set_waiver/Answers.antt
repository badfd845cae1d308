use Rattle.std.proofs.Common.{◌∙◌, arith}
use Rattle.station_ports.specs.Lists.{has_key, key_of}
use Rattle.station_ports.proofs.Entries.{set_at, set_last}
use Rattle.station_ports.proofs.lists.set_waiver.Goals as goal

pub returns-then-at-len-clause-set : goal.returns-then-at-len-clause-set
returns-then-at-len-clause-set c =
    set_at (has_key (key_of c.args.waiver)) c.args.waiver c.args.entries.now.items c.waiver_place-at.result (rw c.deref.ensures.value at c.waiver_place-at.ensures) (omega (arith, c.len.ensures))

pub returns-in_ok-push-clause-set : goal.returns-in_ok-push-clause-set
returns-in_ok-push-clause-set c =
    c.in_ok-push.ensures.items ∙ set_last (has_key (key_of c.args.waiver)) c.args.waiver c.args.entries.now.items c.waiver_place-at.result (rw c.deref.ensures.value at c.waiver_place-at.ensures) (omega (arith, c.len.ensures))
