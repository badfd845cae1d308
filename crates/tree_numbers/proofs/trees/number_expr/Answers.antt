use Rattle.tree_numbers.proofs.Numbering.{numbered_result, bare_result}
use Rattle.tree_numbers.proofs.ExpressionLaws.{expr_way, expr_is}
use Rattle.tree_numbers.proofs.trees.number_expr.Goals as goal

pub returns-clause-same : goal.returns-clause-same
returns-clause-same c =
    bare_result expr_way c.args.tree.now c.number.new.self c.args.counting.now c.number.result
    (expr_is c.args.tree.now) c.number.ensures.tree

pub returns-clause-numbers : goal.returns-clause-numbers
returns-clause-numbers c =
    numbered_result expr_way c.args.tree.now c.number.new.self c.args.counting.now
    c.number.new.counting c.number.result
    (expr_is c.args.tree.now) c.number.ensures.tree c.number.ensures.rest
