use Rattle.std.proofs.Common.{arith}
use Rattle.unit_rules.specs.Running.{further_resource}
use Rattle.unit_rules.proofs.Noting.{noted_one}
use Rattle.unit_rules.proofs.configurations.note_spare.Goals as goal

pub loop-resource-preserved : goal.loop-resource-preserved
loop-resource-preserved c =
    noted_one (further_resource c.args.file)
    c.args.resources.now c.loop-resource.resource-index c.resource-item.result
    _ _ _ (omega arith) c.resource-item.is
    c.loop-resource.invariant c.note_at.ensures
