use Rattle.std.proofs.Common.{[], ◌∷◌, take, map, flat_map}
use Rattle.project_declarations.specs.Named as names
use Rattle.project_declarations.specs.Declarations as declared
use Rattle.project_declarations.specs.Rows.{Adds}
use Rattle.project_declarations.proofs.collected.Collected.globals.Given as goal

abbrev pub invariant-loop-decl : goal.invariant-loop-decl
invariant-loop-decl l =
    Adds l.fn.self l.self []
    (map (declared.variables l.file (declared.global_owner l.globals)) (take l.decl-index l.globals.decls))
    (flat_map (names.decl_names l.file names.global_scope) (take l.decl-index l.globals.decls))
