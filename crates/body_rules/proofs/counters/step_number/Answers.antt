use Rattle.expression_types.specs.Judge.{constant_number}
use Rattle.body_rules.specs.Surroundings.{here}
use Rattle.body_rules.specs.Counters.{nonzero}
use Rattle.body_rules.proofs.Told.{bound}
use Rattle.body_rules.proofs.counters.step_number.Goals as goal

pub returns-in-Some : goal.returns-in-Some
returns-in-Some g c =
    let o = c.args.outside.now in
    let h = here (g.B.Names.names o) (g.B.Meaning.parts o) (g.B.Bodies.around o) c.args.file in
    bound (constant_number h.meanings c.args.file c.args.place c.args.e.now)
    (nonzero h c.args.e.now) _ _ _ _ _ _ c.constant_number.ensures c.in-Some.is c.nonzero.ensures
