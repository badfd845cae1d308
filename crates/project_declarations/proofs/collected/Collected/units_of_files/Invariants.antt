use Rattle.std.proofs.Common.{[], ◌∷◌, take, map, flat_map}
use Rattle.project_declarations.specs.Declarations as declared
use Rattle.project_declarations.specs.Rows.{Adds, AddsUnits}
use Rattle.project_declarations.proofs.collected.Collected.units_of_files.Given as goal

abbrev pub invariant-loop-place : goal.invariant-loop-place
invariant-loop-place l =
    AddsUnits l.fn.self l.self (declared.units_from 0 (take l.place l.files))
