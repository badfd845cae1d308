use Rattle.std.proofs.Common.{ap, length, arith}
use Rattle.reference_graph.specs.Graph.{Rows}
use Rattle.reference_graph.proofs.Storing.{length_rows}
use Rattle.reference_graph.proofs.graph.Graph.nodes.Goals as goal

pub returns : goal.returns
returns c =
    omega (arith, length_rows c.self.inside.starts.items c.self.inside.targets.items, ap (λ (g : Rows). length g) c.self.view_is, c.self.inside.starts.ok.0)
