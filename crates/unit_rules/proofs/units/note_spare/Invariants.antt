use Rattle.std.proofs.Common.{◌≡◌, take}
use Rattle.std.specs.Prelude.{map}
use Rattle.link_faults.specs.First.{after}
use Rattle.project_declarations.specs.Rows.{bare_unit}
use Rattle.unit_rules.specs.Forms.{unit_beyond}
use Rattle.unit_rules.proofs.units.note_spare.Given as goal

abbrev pub invariant-loop-row : goal.invariant-loop-row
invariant-loop-row l =
    l.faults ≡ after l.fn.faults (map unit_beyond (map bare_unit (take l.row-index l.units)))
