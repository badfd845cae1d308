use Rattle.reference_graph.proofs.Splitting.{spread_none, spread_next}
use Rattle.reference_graph.proofs.group.move_nodes.Goals as goal

pub loop-target-init : goal.loop-target-init
loop-target-init c = spread_none c.args.group c.args.own c.args.groups.now.items c.args.found.now.items c.requires

pub loop-target-preserved : goal.loop-target-preserved
loop-target-preserved c =
    spread_next c.args.row.now c.loop-target.target-index c.args.group c.args.own c.args.groups.now.items c.args.found.now.items c.loop-target.groups.items
    c.loop-target.found.items c.move_node.new.groups.items c.move_node.new.found.items c.loop-target-test.true c.requires c.loop-target.invariant
    c.in_ok-move_node.ensures
