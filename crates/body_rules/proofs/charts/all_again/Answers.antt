use Rattle.body_rules.specs.Surroundings.{here}
use Rattle.body_rules.proofs.Again.{again_turn}
use Rattle.body_rules.proofs.charts.all_again.Goals as goal

pub loop-i-preserved : goal.loop-i-preserved
loop-i-preserved g c =
    let o = c.args.outside.now in
    let h = here (g.B.Names.names o) (g.B.Meaning.parts o) (g.B.Bodies.around o) c.args.file in
    again_turn h c.args.list.now c.loop-i.i c.index-list-i.result _ _ _ c.loop-i-test.true
    c.index-list-i.is c.loop-i.invariant c.each_again.ensures
