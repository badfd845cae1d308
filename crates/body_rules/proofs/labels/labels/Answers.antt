use Rattle.std.proofs.Common.{refl}
use Rattle.body_rules.specs.Surroundings.{here}
use Rattle.body_rules.specs.Labels.{label, labels}
use Rattle.body_rules.proofs.Turns.{turn}
use Rattle.body_rules.proofs.labels.labels.Goals as goal

pub loop-each-preserved : goal.loop-each-preserved
loop-each-preserved g c =
    let o = c.args.outside.now in
    let h = here (g.B.Names.names o) (g.B.Meaning.parts o) (g.B.Bodies.around o) c.args.file in
    turn (labels h c.args.selector) (label h c.args.selector) (λ e es. refl) c.args.labels.now
    c.loop-each.each-index c.each-item.result _ _ _ c.loop-each-test.true c.each-item.is
    c.loop-each.invariant c.label.ensures
