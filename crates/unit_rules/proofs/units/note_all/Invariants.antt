use Rattle.std.proofs.Common.{◌≡◌, take}
use Rattle.std.specs.Prelude.{map, flat_map}
use Rattle.link_faults.specs.First.{after}
use Rattle.project_declarations.specs.Rows.{bare_unit}
use Rattle.unit_rules.specs.Forms.{unit_faults}
use Rattle.unit_rules.proofs.units.note_all.Given as goal

abbrev pub invariant-loop-row : goal.invariant-loop-row
invariant-loop-row l =
    l.faults ≡ after l.fn.faults (flat_map unit_faults (map bare_unit (take l.row-index l.units)))
