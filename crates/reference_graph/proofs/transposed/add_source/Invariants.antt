use Rattle.std.proofs.Common.{take}
use Rattle.reference_graph.specs.steps.Sources.{HaveSource}
use Rattle.reference_graph.proofs.transposed.add_source.Given as goal

abbrev pub invariant-loop-target : goal.invariant-loop-target
invariant-loop-target l = HaveSource l.node (take l.target-index l.targets) l.fn.sources.items l.sources.items
