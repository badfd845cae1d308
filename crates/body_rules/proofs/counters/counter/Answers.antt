use Rattle.body_rules.specs.Surroundings.{here}
use Rattle.body_rules.specs.Counters.{counter_type, counted_at}
use Rattle.body_rules.specs.steps.Around.{around}
use Rattle.body_rules.proofs.Told.{answered}
use Rattle.body_rules.proofs.counters.counter.Goals as goal

pub returns : goal.returns
returns g c =
    let o = c.args.outside.now in
    let h = here (g.B.Names.names o) (g.B.Meaning.parts o) (g.B.Bodies.around o) c.args.file in
    answered (counter_type h (around c.args.loops.now) c.args.counter.now.variable)
    (counted_at h c.args.counter.now) _ _ _ _ c.counter_type-elem.ensures c.counted_at.ensures
