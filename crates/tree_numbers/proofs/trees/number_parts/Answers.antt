use Rattle.tree_numbers.proofs.Numbering.{each_way, each_is, numbered_result, bare_result}
use Rattle.tree_numbers.proofs.FileLaws.{file_part_way, file_part_is}
use Rattle.tree_numbers.proofs.trees.number_parts.Goals as goal

pub returns-clause-same : goal.returns-clause-same
returns-clause-same c =
    bare_result (each_way file_part_way) c.args.parts.now c.number_each.new.trees
    c.args.counting.now c.number_each.result
    (each_is file_part_way file_part_is c.args.parts.now) c.number_each.ensures.tree

pub returns-clause-numbers : goal.returns-clause-numbers
returns-clause-numbers c =
    numbered_result (each_way file_part_way) c.args.parts.now c.number_each.new.trees
    c.args.counting.now c.number_each.new.counting c.number_each.result
    (each_is file_part_way file_part_is c.args.parts.now) c.number_each.ensures.tree
    c.number_each.ensures.rest
