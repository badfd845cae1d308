use Rattle.std.proofs.Common.{take}
use Rattle.reference_graph.specs.steps.Groups.{IsSpread}
use Rattle.reference_graph.proofs.group.move_nodes.Given as goal

abbrev pub invariant-loop-target : goal.invariant-loop-target
invariant-loop-target l =
    IsSpread (take l.target-index l.row) l.group l.own l.fn.groups.items l.fn.found.items l.groups.items l.found.items
