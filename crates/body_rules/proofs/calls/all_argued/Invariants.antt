use Rattle.std.proofs.Common.{◌≡◌, ◌&&◌, drop}
use Rattle.link_faults.specs.First.{after}
use Rattle.body_rules.specs.Surroundings.{here}
use Rattle.body_rules.specs.Calls.{argued_faults, all_fit}
use Rattle.body_rules.specs.steps.Around.{around}
use Rattle.body_rules.proofs.calls.all_argued.Given as goal

abbrev pub invariant-loop-argument : goal.invariant-loop-argument
invariant-loop-argument g l =
    let o = l.outside in
    let h = here (g.B.Names.names o) (g.B.Meaning.parts o) (g.B.Bodies.around o) l.file in
    let loops = around l.loops in
    let rest = drop l.argument-index l.arguments in
    (after l.fn.faults (argued_faults h loops l.shape l.arguments)
    ≡ after l.faults (argued_faults h loops l.shape rest))
    × (all_fit h loops l.shape l.arguments ≡ (l.fit && all_fit h loops l.shape rest))
