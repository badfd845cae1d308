use Rattle.std.proofs.Common.{refl}
use Rattle.body_rules.specs.Surroundings.{here}
use Rattle.body_rules.specs.Calls.{alone, all_alone}
use Rattle.body_rules.specs.steps.Around.{around}
use Rattle.body_rules.proofs.Turns.{turn}
use Rattle.body_rules.proofs.calls.all_alone.Goals as goal

pub loop-argument-preserved : goal.loop-argument-preserved
loop-argument-preserved g c =
    let o = c.args.outside.now in
    let h = here (g.B.Names.names o) (g.B.Meaning.parts o) (g.B.Bodies.around o) c.args.file in
    let loops = around c.args.loops.now in
    turn (all_alone h loops) (alone h loops) (λ e es. refl) c.args.arguments.now
    c.loop-argument.argument-index c.argument-item.result _ _ _ c.loop-argument-test.true
    c.argument-item.is c.loop-argument.invariant c.alone.ensures
