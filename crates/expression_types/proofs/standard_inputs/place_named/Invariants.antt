use Rattle.std.proofs.Common.{◌≡◌, map, drop}
use Rattle.st_tree.specs.declared.expression.Argument.{Argument}
use Rattle.expression_types.specs.StandardInputs.{place_named}
use Rattle.expression_types.specs.steps.Three.{further}
use Rattle.expression_types.proofs.standard_inputs.place_named.Given as goal

abbrev pub invariant-loop-i : goal.invariant-loop-i
invariant-loop-i l =
    place_named (map (λ (a : Argument). a.name) l.arguments) l.input
    ≡ further l.i (place_named (map (λ (a : Argument). a.name) (drop l.i l.arguments)) l.input)
