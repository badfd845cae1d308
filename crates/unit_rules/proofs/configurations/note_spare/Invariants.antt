use Rattle.std.proofs.Common.{◌≡◌, take}
use Rattle.std.specs.Prelude.{map}
use Rattle.link_faults.specs.First.{after}
use Rattle.unit_rules.specs.Running.{further_resource}
use Rattle.unit_rules.proofs.configurations.note_spare.Given as goal

abbrev pub invariant-loop-resource : goal.invariant-loop-resource
invariant-loop-resource l =
    l.faults ≡ after l.fn.faults (map (further_resource l.file) (take l.resource-index l.resources))
