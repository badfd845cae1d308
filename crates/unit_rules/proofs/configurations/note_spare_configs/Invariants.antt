use Rattle.std.proofs.Common.{◌≡◌, take}
use Rattle.std.specs.Prelude.{map}
use Rattle.link_faults.specs.First.{after}
use Rattle.unit_rules.specs.Running.{further_config}
use Rattle.unit_rules.proofs.configurations.note_spare_configs.Given as goal

abbrev pub invariant-loop-config : goal.invariant-loop-config
invariant-loop-config l =
    l.faults ≡ after l.fn.faults (map (further_config l.file) (take l.config-index l.configs))
