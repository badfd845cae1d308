use Rattle.declared_types.proofs.Lists.{list_step}
use Rattle.declared_types.proofs.bounds.dims_of.Goals as goal

pub loop-range-preserved : goal.loop-range-preserved
loop-range-preserved g c =
    list_step _ _ _ _ _ _ _ _ _ _ _ _ c.loop-range-test.true c.range-item.is c.loop-range.invariant
    c.bounds_of-dim.ensures c.in_ok-all.ensures.all c.in_ok-all.ensures.dims
