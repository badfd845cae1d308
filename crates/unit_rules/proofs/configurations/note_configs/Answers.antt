use Rattle.std.proofs.Common.{arith}
use Rattle.expression_types.specs.Meanings.{meant}
use Rattle.unit_rules.specs.Running.{outer, config_faults}
use Rattle.unit_rules.proofs.Noting.{noted_next}
use Rattle.unit_rules.proofs.configurations.note_configs.Goals as goal

pub loop-config-preserved : goal.loop-config-preserved
loop-config-preserved g c =
    let m = meant (g.M.Names.names c.args.meaning.now) (g.M.Meaning.parts c.args.meaning.now) in
    noted_next (config_faults m (outer c.args.names.now c.args.units.now) c.args.file)
    c.args.configs.now c.loop-config.config-index c.config-item.result
    _ _ _ (omega arith) c.config-item.is
    c.loop-config.invariant c.note_config.ensures
