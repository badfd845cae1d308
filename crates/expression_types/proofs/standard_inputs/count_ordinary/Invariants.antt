use Rattle.std.proofs.Common.{◌≡◌, ◌+◌, ◌≤◌, [], length, map, drop}
use Rattle.st_tree.specs.declared.expression.Argument.{Argument}
use Rattle.expression_types.specs.Inputs.{without_enables}
use Rattle.expression_types.proofs.standard_inputs.count_ordinary.Given as goal

abbrev pub invariant-loop-i : goal.invariant-loop-i
invariant-loop-i l =
    (l.count ≤ l.i)
    × (l.count + length (without_enables [] (map (λ (a : Argument). a.name) (drop l.i l.arguments)))
    ≡ length (without_enables [] (map (λ (a : Argument). a.name) l.arguments)))
