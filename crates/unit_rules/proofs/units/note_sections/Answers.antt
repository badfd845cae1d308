use Rattle.std.proofs.Common.{arith}
use Rattle.unit_rules.specs.Forms.{section_faults}
use Rattle.unit_rules.proofs.Noting.{noted_next}
use Rattle.unit_rules.proofs.units.note_sections.Goals as goal

pub loop-section-preserved : goal.loop-section-preserved
loop-section-preserved c =
    noted_next (section_faults c.args.file c.args.kind.now)
    c.args.sections.now c.loop-section.section-index c.section-item.result
    _ _ _ (omega arith) c.section-item.is
    c.loop-section.invariant c.note_section.ensures
