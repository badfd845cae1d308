use Rattle.std.proofs.Common.{map}
use Rattle.declared_types.specs.BareForms.{bare_field}
use Rattle.declaration_rules.specs.steps.Telling.{around_of}
use Rattle.declaration_rules.proofs.Groups.{group_step, structure_ok}
use Rattle.declaration_rules.proofs.structures.structure.Goals as goal

pub loop-group-preserved : goal.loop-group-preserved
loop-group-preserved g c =
    let o = c.args.outside.now in
    group_step (around_of (g.D.Outside.around o) (g.D.Counts.repeats o) (g.D.Declares.leads o)
    (g.D.Declares.twice o) (g.D.Declares.holds o)) c.args.list.now _ _ c.args.forms.now.items _ _
    c.args.rows.now.items _ _ c.args.faults.now _ _ _ _ (map bare_field c.loop-group.fields.items) _ _ _
    c.loop-group-test.true c.group-item.is c.loop-group.invariant c.in_ok-given.ensures c.as_slice.ensures
    c.in_ok-all.ensures.all c.in_ok-all.ensures.fields

pub returns : goal.returns
returns g c =
    let o = c.args.outside.now in
    structure_ok (around_of (g.D.Outside.around o) (g.D.Counts.repeats o) (g.D.Declares.leads o)
    (g.D.Declares.twice o) (g.D.Declares.holds o)) c.args.node c.has_field_twice.result c.args.list.now _
    c.args.forms.now.items _ c.add_structure.new.forms.items c.args.rows.now.items _ c.args.faults.now _ _
    (map bare_field c.loop-group.fields.items) c.add_structure.result c.loop-group-test.false
    c.loop-group.invariant c.has_field_twice.ensures c.add_structure.ensures.rows c.add_structure.ensures.given
