use Rattle.std.proofs.Common.{◌≡◌, map, drop}
use Rattle.st_tree.specs.declared.expression.Argument.{Argument}
use Rattle.expression_types.specs.Inputs.{without_enables, are_new}
use Rattle.expression_types.proofs.arguments.are_new.Given as goal

abbrev pub invariant-loop-i : goal.invariant-loop-i
invariant-loop-i g l =
    let f = (g.M.Meaning.parts l.meaning).function l.function in
    are_new f.inputs (without_enables f.declared (map (λ (a : Argument). a.name) l.arguments))
    ≡ are_new f.inputs (without_enables f.declared (map (λ (a : Argument). a.name) (drop l.i l.arguments)))
