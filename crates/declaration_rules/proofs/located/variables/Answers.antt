use Rattle.declaration_rules.specs.steps.Telling.{around_of}
use Rattle.declaration_rules.proofs.Told.{located_gives}
use Rattle.declaration_rules.proofs.located.variables.Goals as goal

pub returns : goal.returns
returns g c =
    let o = c.args.outside.now in
    located_gives (around_of (g.D.Outside.around o) (g.D.Counts.repeats o) (g.D.Declares.leads o)
    (g.D.Declares.twice o) (g.D.Declares.holds o)) c.args.may_stand c.args.decl.now _ _ _ _ _ _ _ _ _ _
    c.in_ok-given.ensures c.at_address.ensures
