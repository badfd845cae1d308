use Rattle.tree_numbers.proofs.Numbering.{numbered_result, bare_result}
use Rattle.tree_numbers.proofs.ChartLaws.{sfc_way, sfc_is}
use Rattle.tree_numbers.proofs.trees.number_sfc.Goals as goal

pub returns-clause-same : goal.returns-clause-same
returns-clause-same c =
    bare_result sfc_way c.args.chart.now c.number.new.self c.args.counting.now c.number.result
    (sfc_is c.args.chart.now) c.number.ensures.tree

pub returns-clause-numbers : goal.returns-clause-numbers
returns-clause-numbers c =
    numbered_result sfc_way c.args.chart.now c.number.new.self c.args.counting.now
    c.number.new.counting c.number.result
    (sfc_is c.args.chart.now) c.number.ensures.tree c.number.ensures.rest
