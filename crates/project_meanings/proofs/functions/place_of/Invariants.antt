use Rattle.std.proofs.Common.{◌≡◌, drop}
use Rattle.expression_types.specs.steps.Three.{further}
use Rattle.project_meanings.specs.Rows.{bare_inputs}
use Rattle.project_meanings.specs.steps.Named.{place_named}
use Rattle.project_meanings.proofs.functions.place_of.Given as goal

abbrev pub invariant-loop-i : goal.invariant-loop-i
invariant-loop-i l =
    place_named (bare_inputs l.rows) l.name
    ≡ further l.i (place_named (bare_inputs (drop l.i l.rows)) l.name)
