use Rattle.std.proofs.Common.{drop}
use Rattle.declared_types.specs.Specifications as spec
use Rattle.declared_types.proofs.Lists.{LeftList}
use Rattle.declared_types.proofs.bounds.dims_of.Given as goal

abbrev pub invariant-loop-range : goal.invariant-loop-range
invariant-loop-range g l =
    LeftList (spec.dims_in (g.O.Outside.around l.outside) l.list)
    (spec.dims_in (g.O.Outside.around l.outside) (drop l.range-index l.list))
    l.fn.faults l.faults l.all l.dims.items
