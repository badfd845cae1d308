use Rattle.std.proofs.Common.{rules}
use denote.Hole.Carrier
use Rattle.st_tree.specs.declared.statement.Stmt.{roll-Stmt}
use Rattle.st_tree.specs.declared.statement.Stmt.TheOpen.{Stmt-F}
use Rattle.tree_numbers.proofs.CountedEquations.{rolled_stmt}
use Rattle.tree_numbers.proofs.statements.+statement.Goals as goal

pub number_in_stmt-returns-in_ok-number_two-in-Call-clause-tree :
    goal.number_in_stmt-returns-in_ok-number_two-in-Call-clause-tree
unfolding roll-Stmt Carrier.roll
number_in_stmt-returns-in_ok-number_two-in-Call-clause-tree t c =
    let made =
    rolled_stmt (Stmt-F.Call c.in-Call.node c.in-Call.name c.in-Call.arguments)
    c.args.counting.now in
    rw c.in-Call.is (rw made (search rules))

pub number_in_stmt-returns-in_ok-number_two-in-Call-clause-rest :
    goal.number_in_stmt-returns-in_ok-number_two-in-Call-clause-rest
unfolding roll-Stmt Carrier.roll
number_in_stmt-returns-in_ok-number_two-in-Call-clause-rest t c =
    let made =
    rolled_stmt (Stmt-F.Call c.in-Call.node c.in-Call.name c.in-Call.arguments)
    c.args.counting.now in
    rw c.in-Call.is (rw made (search rules))
