use Rattle.std.proofs.Common.{rules}
use Rattle.tree_numbers.proofs.files.ShapeNumbered.number.Goals as goal

pub returns-in_ok-number-in-Structure-clause-tree : goal.returns-in_ok-number-in-Structure-clause-tree
returns-in_ok-number-in-Structure-clause-tree c = rw c.in-Structure.is (search rules)

pub returns-in_ok-number-in-Structure-clause-rest : goal.returns-in_ok-number-in-Structure-clause-rest
returns-in_ok-number-in-Structure-clause-rest c = rw c.in-Structure.is (search rules)
