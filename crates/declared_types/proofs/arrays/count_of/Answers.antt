use Rattle.declared_types.proofs.Counts.{stops, goes}
use Rattle.declared_types.proofs.arrays.count_of.Goals as goal

pub returns-in-None : goal.returns-in-None
returns-in-None c =
    stops _ _ _ _ _ c.loop-dim-test.true c.loop-dim.invariant.0 c.in_each.ensures c.in-None.is

pub loop-dim-preserved : goal.loop-dim-preserved
loop-dim-preserved c =
    goes _ _ _ _ _ _ c.loop-dim-test.true c.loop-dim.invariant c.in_each.ensures c.in-Some.is
