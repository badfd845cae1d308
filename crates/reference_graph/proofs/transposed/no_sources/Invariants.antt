use Rattle.std.proofs.Common.{◌≡◌, [], replicate}
use Rattle.reference_graph.proofs.transposed.no_sources.Given as goal

abbrev pub invariant-loop : goal.invariant-loop
invariant-loop l = l.sources.items ≡ replicate l.counter []
