use Rattle.std.proofs.Common.{[], ◌∷◌, take, map, flat_map}
use Rattle.project_declarations.specs.Named as names
use Rattle.project_declarations.specs.Declarations as declared
use Rattle.project_declarations.specs.Rows.{Adds}
use Rattle.project_declarations.proofs.collected.Collected.sections.Given as goal

abbrev pub invariant-loop-section : goal.invariant-loop-section
invariant-loop-section l =
    Adds l.fn.self l.self [] (flat_map (declared.section_decls l.file l.unit) (take l.section-index l.sections))
    (flat_map (names.section_names l.file l.unit) (take l.section-index l.sections))
