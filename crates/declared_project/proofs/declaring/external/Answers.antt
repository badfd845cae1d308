use Rattle.declaration_rules.specs.steps.Telling.{around_of}
use Rattle.declared_names.specs.Tables.{known_at}
use Rattle.declared_project.proofs.Rows.{external_gives}
use Rattle.declared_project.proofs.declaring.external.Goals as goal

pub returns : goal.returns
returns g c =
    let o = c.args.outside.now in
    external_gives (known_at c.args.at.now) (around_of (g.D.Outside.around o) (g.D.Counts.repeats o)
    (g.D.Declares.leads o) (g.D.Declares.twice o) (g.D.Declares.holds o)) c.args.forms.now.items
    c.variables.new.forms.items _ c.args.rows.now.items _ c.args.faults.now _ _ c.args.decl.now _ _ _ _
    c.in_ok-given.ensures c.deref.ensures.value c.as_slice.ensures c.external_names-all.ensures
    c.where_all.ensures
