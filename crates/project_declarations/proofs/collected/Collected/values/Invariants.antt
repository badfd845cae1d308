use Rattle.std.proofs.Common.{[], take}
use Rattle.project_declarations.specs.Named as names
use Rattle.project_declarations.specs.Rows.{Adds}
use Rattle.project_declarations.proofs.collected.Collected.values.Given as goal

abbrev pub invariant-loop-place : goal.invariant-loop-place
invariant-loop-place l =
    Adds l.fn.self l.self [] [] (names.values_of l.file l.fn.node (take l.place l.list))
