use Rattle.std.proofs.Common.{◌≡◌, map, drop}
use Rattle.std.specs.List.{list_all}
use Rattle.st_tree.specs.declared.expression.Argument.{Argument}
use Rattle.expression_types.specs.Inputs.{is_given}
use Rattle.expression_types.proofs.arguments.are_given.Given as goal

abbrev pub invariant-loop-i : goal.invariant-loop-i
invariant-loop-i l =
    list_all (is_given l.by_name) (map (λ (a : Argument). a.name) l.arguments)
    ≡ list_all (is_given l.by_name) (map (λ (a : Argument). a.name) (drop l.i l.arguments))
