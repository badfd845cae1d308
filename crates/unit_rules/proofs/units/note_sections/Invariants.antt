use Rattle.std.proofs.Common.{◌≡◌, take}
use Rattle.std.specs.Prelude.{flat_map}
use Rattle.link_faults.specs.First.{after}
use Rattle.unit_rules.specs.Forms.{section_faults}
use Rattle.unit_rules.proofs.units.note_sections.Given as goal

abbrev pub invariant-loop-section : goal.invariant-loop-section
invariant-loop-section l =
    l.faults ≡ after l.fn.faults
    (flat_map (section_faults l.file l.kind) (take l.section-index l.sections))
