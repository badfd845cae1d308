use Rattle.std.proofs.Common.{◌≡◌, take}
use Rattle.link_faults.specs.First.{after}
use Rattle.project_declarations.specs.Named.{each_from}
use Rattle.project_declarations.specs.Declarations.{joined}
use Rattle.unit_rules.specs.Twice.{row_faults}
use Rattle.unit_rules.proofs.names.note_names.Given as goal

abbrev pub invariant-loop-at : goal.invariant-loop-at
invariant-loop-at l =
    l.faults ≡ after l.fn.faults (joined (each_from (row_faults l.names) 0 (take l.at l.names)))
