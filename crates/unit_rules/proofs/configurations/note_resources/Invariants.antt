use Rattle.std.proofs.Common.{◌≡◌, take}
use Rattle.std.specs.Prelude.{flat_map}
use Rattle.link_faults.specs.First.{after}
use Rattle.expression_types.specs.Meanings.{meant}
use Rattle.unit_rules.specs.Running.{outer, resource_faults}
use Rattle.unit_rules.proofs.configurations.note_resources.Given as goal

abbrev pub invariant-loop-resource : goal.invariant-loop-resource
invariant-loop-resource g l =
    let m = meant (g.M.Names.names l.meaning) (g.M.Meaning.parts l.meaning) in
    l.faults ≡ after l.fn.faults
    (flat_map (resource_faults m (outer l.names l.units) l.file) (take l.resource-index l.resources))
