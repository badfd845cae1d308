use Rattle.declaration_order.specs.steps.Waiting.{AreWaits}
use Rattle.declaration_order.proofs.computing.waits.Given as goal

abbrev pub invariant-loop-node : goal.invariant-loop-node
invariant-loop-node l = AreWaits l.leads l.in_leads l.values l.in_all l.node l.graph
