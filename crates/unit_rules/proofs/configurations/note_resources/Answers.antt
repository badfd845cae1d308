use Rattle.std.proofs.Common.{arith}
use Rattle.expression_types.specs.Meanings.{meant}
use Rattle.unit_rules.specs.Running.{outer, resource_faults}
use Rattle.unit_rules.proofs.Noting.{noted_next}
use Rattle.unit_rules.proofs.configurations.note_resources.Goals as goal

pub loop-resource-preserved : goal.loop-resource-preserved
loop-resource-preserved g c =
    let m = meant (g.M.Names.names c.args.meaning.now) (g.M.Meaning.parts c.args.meaning.now) in
    noted_next (resource_faults m (outer c.args.names.now c.args.units.now) c.args.file)
    c.args.resources.now c.loop-resource.resource-index c.resource-item.result
    _ _ _ (omega arith) c.resource-item.is
    c.loop-resource.invariant c.note_running.ensures
