use Rattle.std.proofs.Common.{◌≡◌, drop}
use Rattle.std.specs.Prelude.{flat_map}
use Rattle.link_faults.specs.First.{after}
use Rattle.body_rules.specs.Surroundings.{here}
use Rattle.body_rules.specs.Charts.{step_named}
use Rattle.body_rules.proofs.charts.all_named.Given as goal

abbrev pub invariant-loop-each : goal.invariant-loop-each
invariant-loop-each g l =
    let o = l.outside in
    let h = here (g.B.Names.names o) (g.B.Meaning.parts o) (g.B.Bodies.around o) l.file in
    after l.fn.faults (flat_map (step_named h) l.list)
    ≡ after l.faults (flat_map (step_named h) (drop l.each-index l.list))
