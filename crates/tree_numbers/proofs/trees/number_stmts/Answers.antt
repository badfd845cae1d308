use Rattle.tree_numbers.proofs.Numbering.{each_way, each_is, numbered_result, bare_result}
use Rattle.tree_numbers.proofs.StatementLaws.{stmt_way, stmt_is}
use Rattle.tree_numbers.proofs.trees.number_stmts.Goals as goal

pub returns-clause-same : goal.returns-clause-same
returns-clause-same c =
    bare_result (each_way stmt_way) c.args.statements.now c.number_each.new.trees
    c.args.counting.now c.number_each.result
    (each_is stmt_way stmt_is c.args.statements.now) c.number_each.ensures.tree

pub returns-clause-numbers : goal.returns-clause-numbers
returns-clause-numbers c =
    numbered_result (each_way stmt_way) c.args.statements.now c.number_each.new.trees
    c.args.counting.now c.number_each.new.counting c.number_each.result
    (each_is stmt_way stmt_is c.args.statements.now) c.number_each.ensures.tree
    c.number_each.ensures.rest
