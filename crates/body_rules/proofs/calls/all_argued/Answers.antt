use Rattle.std.proofs.Common.{refl}
use Rattle.body_rules.specs.Surroundings.{here}
use Rattle.body_rules.specs.Calls.{argued, argued_faults}
use Rattle.body_rules.specs.steps.Around.{around}
use Rattle.body_rules.proofs.Turns.{turn, all_turn}
use Rattle.body_rules.proofs.calls.all_argued.Goals as goal

pub loop-argument-preserved : goal.loop-argument-preserved
loop-argument-preserved g c =
    let o = c.args.outside.now in
    let h = here (g.B.Names.names o) (g.B.Meaning.parts o) (g.B.Bodies.around o) c.args.file in
    let loops = around c.args.loops.now in
    let told = argued h loops c.args.shape in
    record {
      0 = turn (argued_faults h loops c.args.shape) (λ a. (told a).faults) (λ e es. refl)
          c.args.arguments.now c.loop-argument.argument-index c.argument-item.result _ _ _
          c.loop-argument-test.true c.argument-item.is c.loop-argument.invariant.0
          c.argued.ensures.first;
      1 = all_turn (λ a. (told a).fits) c.args.arguments.now c.loop-argument.argument-index
          c.argument-item.result _ _ _ c.loop-argument-test.true c.argument-item.is
          c.loop-argument.invariant.1 c.argued.ensures.fits c.both_fit-fit.ensures;
    }
