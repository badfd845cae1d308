use Rattle.std.proofs.Common.{length}
use Rattle.declared_types.specs.Specifications.{made}
use Rattle.declaration_rules.specs.steps.Telling.{around_of}
use Rattle.declaration_rules.proofs.Told.{variable_ok}
use Rattle.declaration_rules.proofs.initialised.variable.Goals as goal

pub returns : goal.returns
returns g c =
    let o = c.args.outside.now in
    variable_ok (around_of (g.D.Outside.around o) (g.D.Counts.repeats o) (g.D.Declares.leads o)
    (g.D.Declares.twice o) (g.D.Declares.holds o)) c.args.forms.now.items _ _
    (length c.args.rows.now.items) c.args.init.now
    (λ n. made (g.D.Outside.around o) c.args.spec.now c.args.may_be n) _
    c.args.rows.now.items c.if_written.new.rows.items c.args.faults.now _ c.if_written.new.faults
    c.if_written.result c.in_ok-given.ensures c.deref.ensures.value c.if_written.ensures
