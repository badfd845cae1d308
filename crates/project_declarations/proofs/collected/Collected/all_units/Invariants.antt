use Rattle.std.proofs.Common.{[], ◌∷◌, take, map, flat_map}
use Rattle.project_declarations.specs.Declarations as declared
use Rattle.project_declarations.specs.Rows.{Adds, AddsUnits}
use Rattle.project_declarations.proofs.collected.Collected.all_units.Given as goal

abbrev pub invariant-loop-unit : goal.invariant-loop-unit
invariant-loop-unit l =
    AddsUnits l.fn.self l.self (map (declared.placed l.file) (take l.unit-index l.list))
