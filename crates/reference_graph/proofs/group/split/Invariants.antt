use Rattle.std.proofs.Common.{◌+◌, ◌-◌, length}
use Rattle.reference_graph.specs.steps.Groups.{count_in}
use Rattle.reference_graph.proofs.Splitting.{IsSplitting}
use Rattle.reference_graph.proofs.group.split.Given as goal

abbrev pub invariant-loop-at : goal.invariant-loop-at
invariant-loop-at l = IsSplitting l.graph l.root l.group l.own l.fn.groups.items l.groups.items l.found.items l.at

abbrev pub decreases-loop-at : goal.decreases-loop-at
decreases-loop-at l = length l.found.items - l.at + count_in l.group l.groups.items
