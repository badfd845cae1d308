use Rattle.std.proofs.Common.{sym}
use Rattle.declared_types.proofs.Told.{both_of}
use Rattle.declared_types.proofs.bounds.bounds_of.Goals as goal

pub returns : goal.returns
returns g c =
    rw (sym c.get.ensures) (rw (sym c.get-2.ensures)
    (both_of _ _ _ _ _ _ _ _ _ _ c.constant-lower.ensures c.constant-upper.ensures
    c.in_order_known.ensures))
