use Rattle.std.proofs.Common.{arith}
use Rattle.unit_rules.specs.Running.{further_config}
use Rattle.unit_rules.proofs.Noting.{noted_one}
use Rattle.unit_rules.proofs.configurations.note_spare_configs.Goals as goal

pub loop-config-preserved : goal.loop-config-preserved
loop-config-preserved c =
    noted_one (further_config c.args.file)
    c.args.configs.now c.loop-config.config-index c.config-item.result
    _ _ _ (omega arith) c.config-item.is
    c.loop-config.invariant c.note_at.ensures
