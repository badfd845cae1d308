use Rattle.std.proofs.Common.{rules}
use Rattle.tree_numbers.proofs.charts.StepNamesNumbered.number.Goals as goal

pub returns-in_ok-number-in-Several-clause-tree : goal.returns-in_ok-number-in-Several-clause-tree
returns-in_ok-number-in-Several-clause-tree c = rw c.in-Several.is (search rules)

pub returns-in_ok-number-in-Several-clause-rest : goal.returns-in_ok-number-in-Several-clause-rest
returns-in_ok-number-in-Several-clause-rest c = rw c.in-Several.is (search rules)
