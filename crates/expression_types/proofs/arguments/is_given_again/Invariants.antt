use Rattle.std.proofs.Common.{◌≡◌, map, drop}
use Rattle.st_tree.specs.declared.expression.Argument.{Argument}
use Rattle.expression_types.specs.Inputs.{without_enables, is_given_again}
use Rattle.expression_types.proofs.arguments.is_given_again.Given as goal

abbrev pub invariant-loop-i : goal.invariant-loop-i
invariant-loop-i g l =
    let f = (g.M.Meaning.parts l.meaning).function l.function in
    is_given_again f.inputs (without_enables f.declared (map (λ (a : Argument). a.name) l.arguments)) l.place
    ≡ is_given_again f.inputs (without_enables f.declared (map (λ (a : Argument). a.name) (drop l.i l.arguments))) l.place
