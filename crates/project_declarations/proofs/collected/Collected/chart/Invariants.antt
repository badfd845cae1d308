use Rattle.std.proofs.Common.{[], ◌∷◌, take, map, flat_map}
use Rattle.project_declarations.specs.Named as names
use Rattle.project_declarations.specs.Declarations as declared
use Rattle.project_declarations.specs.Rows.{Adds}
use Rattle.project_declarations.proofs.collected.Collected.chart.Given as goal

abbrev pub invariant-loop-part : goal.invariant-loop-part
invariant-loop-part l =
    Adds l.fn.self l.self [] [] (names.step_name l.file l.unit l.chart.initial
    ∷ flat_map (names.chart_part_names l.file l.unit) (take l.part-index l.chart.parts))
