use Rattle.std.proofs.Common.{◌∙◌, ℕ, List, [], replicate, arith, subst, sym, ap}
use Rattle.reference_graph.specs.Graph.{Rows, IsTransposed}
use Rattle.reference_graph.specs.steps.Sources.{HaveSource}
use Rattle.reference_graph.proofs.Turning.{sources_none, sources_more, sources_all}
use Rattle.reference_graph.proofs.transposed.transposed.Goals as goal

pub loop-node-init : goal.loop-node-init
loop-node-init c =
    sources_none c.args.graph.now c.in_ok-sources.sources.items
    (c.in_ok-sources.ensures ∙ ap (λ (n : ℕ). replicate n []) c.nodes.ensures)

pub loop-node-preserved : goal.loop-node-preserved
loop-node-preserved c =
    sources_more c.args.graph.now c.loop-node.sources.items c.add_source.new.sources.items c.loop-node.node c.loop-node.invariant
    (subst (λ (row : List ℕ). HaveSource c.loop-node.node row c.loop-node.sources.items c.add_source.new.sources.items) c.targets.ensures
    c.in_ok-add_source.ensures)

pub returns : goal.returns
returns c =
    subst (λ (g : Rows). IsTransposed c.args.graph.now g) (sym (c.in_ok-turned.ensures ∙ c.deref.ensures.value))
    (sources_all c.args.graph.now c.loop-node.sources.items c.loop-node.node (omega (arith, c.loop-node-test.false, c.nodes-node-end.ensures)) c.loop-node.invariant)
