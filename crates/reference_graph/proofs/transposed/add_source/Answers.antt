use Rattle.std.proofs.Common.{arith}
use Rattle.reference_graph.proofs.Turning.{source_none, source_next_stays, source_next_added}
use Rattle.reference_graph.proofs.transposed.add_source.Goals.{then-target-len+in_ok-push_at, else-target-len}
use Rattle.reference_graph.proofs.transposed.add_source.Goals as goal

pub loop-target-init : goal.loop-target-init
loop-target-init c = source_none c.args.node c.args.sources.now.items

pub loop-target-preserved : goal.loop-target-preserved
loop-target-preserved c =
    elim c.if-target-len.branch [
      | then-target-len+in_ok-push_at w ↦
          rw w.sources-is
          (source_next_added c.args.node c.loop-target.target-index c.args.targets.now c.args.sources.now.items c.loop-target.sources.items
          w.push_at.new.sources.items c.loop-target-test.true c.loop-target.invariant
          (omega (arith, w.if-target-len.true, c.len.ensures, c.loop-target.sources.ok.0)) w.in_ok-push_at.ensures)
      | else-target-len w ↦
          rw w.sources-is
          (source_next_stays c.args.node c.loop-target.target-index c.args.targets.now c.args.sources.now.items c.loop-target.sources.items
          c.loop-target-test.true c.loop-target.invariant (omega (arith, w.if-target-len.false, c.len.ensures, c.loop-target.sources.ok.0)))
    ]
