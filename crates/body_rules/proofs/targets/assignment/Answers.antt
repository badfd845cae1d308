use Rattle.body_rules.specs.Surroundings.{here}
use Rattle.body_rules.specs.Targets.{target, assigned, unassigned}
use Rattle.body_rules.specs.steps.Around.{around}
use Rattle.body_rules.proofs.Told.{followed_none}
use Rattle.body_rules.proofs.targets.assignment.Goals as goal

pub returns-in-None : goal.returns-in-None
returns-in-None g c =
    let o = c.args.outside.now in
    let h = here (g.B.Names.names o) (g.B.Meaning.parts o) (g.B.Bodies.around o) c.args.file in
    followed_none (target h (around c.args.loops.now) c.args.path.now)
    (assigned h c.args.node c.args.path.now c.args.e.now)
    (unassigned h c.args.node c.args.path.now c.args.e.now) _ _ _ _ c.target.ensures c.in-None.is
    c.unassigned.ensures
