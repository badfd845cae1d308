use Rattle.std.proofs.Common.{[], ◌∷◌, take, map, flat_map}
use Rattle.project_declarations.specs.Named as names
use Rattle.project_declarations.specs.Declarations as declared
use Rattle.project_declarations.specs.Rows.{Adds}
use Rattle.project_declarations.proofs.collected.Collected.section.Given as goal

abbrev pub invariant-loop-decl : goal.invariant-loop-decl
invariant-loop-decl l =
    Adds l.fn.self l.self []
    (map (declared.variables l.file (declared.local_owner l.unit l.section)) (take l.decl-index l.section.decls))
    (flat_map (names.decl_names l.file (names.local_scope l.unit)) (take l.decl-index l.section.decls))
