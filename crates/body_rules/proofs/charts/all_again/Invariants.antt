use Rattle.std.proofs.Common.{◌≡◌, drop}
use Rattle.link_faults.specs.First.{after}
use Rattle.body_rules.specs.Surroundings.{here}
use Rattle.body_rules.specs.Charts.{all_again}
use Rattle.body_rules.proofs.charts.all_again.Given as goal

abbrev pub invariant-loop-i : goal.invariant-loop-i
invariant-loop-i g l =
    let o = l.outside in
    let h = here (g.B.Names.names o) (g.B.Meaning.parts o) (g.B.Bodies.around o) l.file in
    after l.fn.faults (all_again h l.list) ≡ after l.faults (all_again h (drop l.i l.list))
