use Rattle.body_rules.specs.Surroundings.{here}
use Rattle.body_rules.specs.Labels.{point_number, rising}
use Rattle.body_rules.proofs.Told.{both_of}
use Rattle.body_rules.proofs.labels.pair.Goals as goal

pub returns : goal.returns
returns g c =
    let o = c.args.outside.now in
    let h = here (g.B.Names.names o) (g.B.Meaning.parts o) (g.B.Bodies.around o) c.args.file in
    both_of (point_number h c.args.selector c.args.first.now)
    (point_number h c.args.selector c.args.last.now) (rising h c.args.node) _ _ _ _ _ _ _
    c.point_number-a.ensures c.point_number-b.ensures c.both_rising.ensures
