use Rattle.interval_domain.proofs.OnGrid.{grid_rounds}
use Rattle.interval_domain.proofs.grid.Grid.of.Goals as goal

pub invariant_of-result : goal.invariant_of-result
invariant_of-result c = grid_rounds c.args.literals.now _ c.in_ok-numbers.ensures
