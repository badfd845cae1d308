use Rattle.std.proofs.Common.{[], ◌∷◌, take, map, flat_map}
use Rattle.project_declarations.specs.Named as names
use Rattle.project_declarations.specs.Declarations as declared
use Rattle.project_declarations.specs.Rows.{Adds}
use Rattle.project_declarations.proofs.collected.Collected.all_types.Given as goal

abbrev pub invariant-loop-types : goal.invariant-loop-types
invariant-loop-types l =
    Adds l.fn.self l.self [] (flat_map (declared.types_decls l.file) (take l.types-index l.list))
    (flat_map (names.types_names l.file) (take l.types-index l.list))
