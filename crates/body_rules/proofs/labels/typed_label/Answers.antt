use Rattle.body_rules.specs.Surroundings.{here}
use Rattle.body_rules.specs.Labels.{typed_number, fitting}
use Rattle.body_rules.proofs.Told.{bound}
use Rattle.body_rules.proofs.labels.typed_label.Goals as goal

pub returns-in-Some : goal.returns-in-Some
returns-in-Some g c =
    let o = c.args.outside.now in
    let h = here (g.B.Names.names o) (g.B.Meaning.parts o) (g.B.Bodies.around o) c.args.file in
    bound (typed_number h c.args.node c.args.text.now) (fitting h c.args.selector c.args.node) _ _ _
    _ _ _ c.typed_number.ensures c.in-Some.is c.fitting.ensures
