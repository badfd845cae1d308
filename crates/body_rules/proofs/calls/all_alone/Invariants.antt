use Rattle.std.proofs.Common.{◌≡◌, drop}
use Rattle.link_faults.specs.First.{after}
use Rattle.body_rules.specs.Surroundings.{here}
use Rattle.body_rules.specs.Calls.{all_alone}
use Rattle.body_rules.specs.steps.Around.{around}
use Rattle.body_rules.proofs.calls.all_alone.Given as goal

abbrev pub invariant-loop-argument : goal.invariant-loop-argument
invariant-loop-argument g l =
    let o = l.outside in
    let h = here (g.B.Names.names o) (g.B.Meaning.parts o) (g.B.Bodies.around o) l.file in
    let loops = around l.loops in
    after l.fn.faults (all_alone h loops l.arguments)
    ≡ after l.faults (all_alone h loops (drop l.argument-index l.arguments))
