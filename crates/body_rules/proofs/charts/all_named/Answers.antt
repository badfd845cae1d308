use Rattle.std.proofs.Common.{refl}
use Rattle.std.specs.Prelude.{flat_map}
use Rattle.body_rules.specs.Surroundings.{here}
use Rattle.body_rules.specs.Charts.{step_named}
use Rattle.body_rules.proofs.Turns.{turn}
use Rattle.body_rules.proofs.charts.all_named.Goals as goal

pub loop-each-preserved : goal.loop-each-preserved
loop-each-preserved g c =
    let o = c.args.outside.now in
    let h = here (g.B.Names.names o) (g.B.Meaning.parts o) (g.B.Bodies.around o) c.args.file in
    turn (flat_map (step_named h)) (step_named h) (λ e es. refl) c.args.list.now
    c.loop-each.each-index c.each-item.result _ _ _ c.loop-each-test.true c.each-item.is
    c.loop-each.invariant c.step_named.ensures
