use Rattle.std.proofs.Common.{map}
use Rattle.declared_types.specs.BareForms.{bare_field}
use Rattle.declaration_rules.specs.steps.Telling.{around_of}
use Rattle.declaration_rules.proofs.Groups.{InGroups}
use Rattle.declaration_rules.proofs.structures.structure.Given as goal

abbrev pub invariant-loop-group : goal.invariant-loop-group
invariant-loop-group g l =
    let o = l.outside in
    InGroups (around_of (g.D.Outside.around o) (g.D.Counts.repeats o) (g.D.Declares.leads o)
    (g.D.Declares.twice o) (g.D.Declares.holds o)) l.list l.group-index l.fn.forms.items l.forms.items
    l.fn.rows.items l.rows.items l.fn.faults l.faults l.all (map bare_field l.fields.items)
