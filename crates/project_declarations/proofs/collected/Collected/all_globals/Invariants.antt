use Rattle.std.proofs.Common.{[], ◌∷◌, take, map, flat_map}
use Rattle.project_declarations.specs.Named as names
use Rattle.project_declarations.specs.Declarations as declared
use Rattle.project_declarations.specs.Rows.{Adds}
use Rattle.project_declarations.proofs.collected.Collected.all_globals.Given as goal

abbrev pub invariant-loop-globals : goal.invariant-loop-globals
invariant-loop-globals l =
    Adds l.fn.self l.self [] (flat_map (declared.globals_decls l.file) (take l.globals-index l.list))
    (flat_map (names.globals_names l.file) (take l.globals-index l.list))
