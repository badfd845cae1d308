use Rattle.std.proofs.Common.{◌≡◌, take, flat_map}
use Rattle.declared_names.specs.Tables.{project_in}
use Rattle.project_meanings.specs.Signatures as spec
use Rattle.project_meanings.specs.Rows.{bare_inputs}
use Rattle.project_meanings.proofs.signatures.unit_inputs.Given as goal

abbrev pub invariant-loop-section : goal.invariant-loop-section
invariant-loop-section l =
    bare_inputs l.rows.items
    ≡ flat_map (spec.section_inputs (project_in l.project) l.file) (take l.section-index l.sections)
