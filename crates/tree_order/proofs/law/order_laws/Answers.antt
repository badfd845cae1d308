use Rattle.tree_order.proofs.InOrder.{nodes_in_order}
use Rattle.tree_order.proofs.PartsInOrder.{nodes_of_all_parts, parts_of_nodes, parts_in_order}
use Rattle.tree_order.proofs.law.order_laws.Goals as goal

pub returns-clause-nodes : goal.returns-clause-nodes
returns-clause-nodes c =
    nodes_in_order c.cut_laws.ensures.tokens_in c.numbering_laws.ensures.numbers

pub returns-clause-all_parts : goal.returns-clause-all_parts
returns-clause-all_parts c = nodes_of_all_parts

pub returns-clause-no_others : goal.returns-clause-no_others
returns-clause-no_others c = parts_of_nodes

pub returns-clause-parts : goal.returns-clause-parts
returns-clause-parts c =
    parts_in_order c.cut_laws.ensures.tokens_in c.numbering_laws.ensures.numbers
