use Rattle.std.proofs.Common.{length}
use Rattle.declared_types.specs.BareForms.{bare_forms}
use Rattle.declaration_rules.specs.Declarations.{shape_made}
use Rattle.declaration_rules.specs.steps.Telling.{around_of}
use Rattle.declaration_rules.proofs.Told.{initialised_ok}
use Rattle.declaration_rules.proofs.structures.data_type.Goals as goal

pub returns : goal.returns
returns g c =
    let o = c.args.outside.now in
    let s = around_of (g.D.Outside.around o) (g.D.Counts.repeats o) (g.D.Declares.leads o)
    (g.D.Declares.twice o) (g.D.Declares.holds o) in
    initialised_ok s c.args.forms.now.items _ _ c.args.decl.now.init
    (shape_made s (bare_forms c.args.forms.now.items) (length c.args.rows.now.items) c.args.decl.now.shape) _
    c.args.rows.now.items c.shape_made.new.rows.items c.if_written.new.rows.items c.args.faults.now _
    c.if_written.new.faults c.if_written.result c.in_ok-given.ensures c.deref.ensures.value c.if_written.ensures
