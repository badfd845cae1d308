use Rattle.declared_types.specs.BareForms.{bare_forms}
use Rattle.declaration_rules.specs.steps.Telling.{around_of}
use Rattle.declared_names.specs.Tables.{known_at}
use Rattle.declared_project.specs.Declaring as spec
use Rattle.declared_project.proofs.Names.{name_step}
use Rattle.declared_project.proofs.declaring.external_names.Goals as goal

pub loop-i-preserved : goal.loop-i-preserved
loop-i-preserved g c =
    let o = c.args.outside.now in
    let s = around_of (g.D.Outside.around o) (g.D.Counts.repeats o) (g.D.Declares.leads o)
    (g.D.Declares.twice o) (g.D.Declares.holds o) in
    name_step (spec.external_name (known_at c.args.at.now) s (bare_forms c.args.forms.now) c.args.written)
    c.args.names.now c.loop-i.i _ c.args.faults.now c.loop-i.faults _ c.loop-i.all _ _
    c.loop-i-test.true c.index-names-i.is c.loop-i.invariant c.external_name.ensures
    c.still_good-all.ensures
