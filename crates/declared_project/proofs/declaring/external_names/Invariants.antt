use Rattle.std.proofs.Common.{map, drop}
use Rattle.declared_types.specs.BareForms.{bare_forms}
use Rattle.declaration_rules.specs.steps.Telling.{around_of}
use Rattle.declared_names.specs.Tables.{known_at}
use Rattle.declared_project.specs.Declaring as spec
use Rattle.declared_project.proofs.Names.{LeftOf}
use Rattle.declared_project.proofs.declaring.external_names.Given as goal

abbrev pub invariant-loop-i : goal.invariant-loop-i
invariant-loop-i g l =
    let s = around_of (g.D.Outside.around l.outside) (g.D.Counts.repeats l.outside)
    (g.D.Declares.leads l.outside) (g.D.Declares.twice l.outside) (g.D.Declares.holds l.outside) in
    let f = spec.external_name (known_at l.at) s (bare_forms l.forms) l.written in
    LeftOf (map f l.names) (map f (drop l.i l.names)) l.initial.faults l.faults l.all
