use Rattle.std.proofs.Common.{◌≡◌, map, drop}
use Rattle.link_faults.specs.First.{after}
use Rattle.body_rules.specs.Surroundings.{here}
use Rattle.body_rules.specs.Statements.{each, each_case, stmt, branch, case}
use Rattle.body_rules.specs.steps.Around.{around}
use Rattle.body_rules.proofs.statements.+statement.Given as goal

abbrev pub invariant-statements-loop-each : goal.invariant-statements-loop-each
invariant-statements-loop-each g l =
    let o = l.outside in
    let h = here (g.B.Names.names o) (g.B.Meaning.parts o) (g.B.Bodies.around o) l.file in
    after l.fn.faults (each (map (stmt h) l.list) (around l.loops))
    ≡ after l.faults (each (map (stmt h) (drop l.each-index l.list)) (around l.loops))

abbrev pub invariant-branches-loop-each : goal.invariant-branches-loop-each
invariant-branches-loop-each g l =
    let o = l.outside in
    let h = here (g.B.Names.names o) (g.B.Meaning.parts o) (g.B.Bodies.around o) l.file in
    after l.fn.faults (each (map (branch h) l.list) (around l.loops))
    ≡ after l.faults (each (map (branch h) (drop l.each-index l.list)) (around l.loops))

abbrev pub invariant-cases-loop-each : goal.invariant-cases-loop-each
invariant-cases-loop-each g l =
    let o = l.outside in
    let h = here (g.B.Names.names o) (g.B.Meaning.parts o) (g.B.Bodies.around o) l.file in
    after l.fn.faults (each_case (map (case h) l.list) l.selector (around l.loops))
    ≡ after l.faults (each_case (map (case h) (drop l.each-index l.list)) l.selector (around l.loops))
