use Rattle.std.proofs.Common.{◌≡◌, drop}
use Rattle.link_faults.specs.First.{after}
use Rattle.body_rules.specs.Surroundings.{here}
use Rattle.body_rules.specs.Labels.{labels}
use Rattle.body_rules.proofs.labels.labels.Given as goal

abbrev pub invariant-loop-each : goal.invariant-loop-each
invariant-loop-each g l =
    let o = l.outside in
    let h = here (g.B.Names.names o) (g.B.Meaning.parts o) (g.B.Bodies.around o) l.file in
    after l.fn.faults (labels h l.selector l.labels)
    ≡ after l.faults (labels h l.selector (drop l.each-index l.labels))
