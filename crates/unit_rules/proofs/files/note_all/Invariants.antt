use Rattle.std.proofs.Common.{◌≡◌, take}
use Rattle.link_faults.specs.First.{after}
use Rattle.expression_types.specs.Meanings.{meant}
use Rattle.project_declarations.specs.Named.{each_from}
use Rattle.project_declarations.specs.Declarations.{joined}
use Rattle.unit_rules.specs.Running.{outer, configs_faults}
use Rattle.unit_rules.proofs.files.note_all.Given as goal

abbrev pub invariant-loop-place : goal.invariant-loop-place
invariant-loop-place g l =
    let m = meant (g.M.Names.names l.meaning) (g.M.Meaning.parts l.meaning) in
    l.faults ≡ after l.fn.faults
    (joined (each_from (configs_faults m (outer l.names l.units)) 0 (take l.place l.files)))
