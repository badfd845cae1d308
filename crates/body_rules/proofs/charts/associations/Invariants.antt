use Rattle.std.proofs.Common.{◌≡◌, drop}
use Rattle.std.specs.Prelude.{flat_map}
use Rattle.link_faults.specs.First.{after}
use Rattle.body_rules.specs.Surroundings.{here}
use Rattle.body_rules.specs.Charts.{association}
use Rattle.body_rules.proofs.charts.associations.Given as goal

abbrev pub invariant-loop-each : goal.invariant-loop-each
invariant-loop-each g l =
    let o = l.outside in
    let h = here (g.B.Names.names o) (g.B.Meaning.parts o) (g.B.Bodies.around o) l.file in
    after l.fn.faults (flat_map (association h) l.list)
    ≡ after l.faults (flat_map (association h) (drop l.each-index l.list))
