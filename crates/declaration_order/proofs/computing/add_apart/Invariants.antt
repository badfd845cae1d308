use Rattle.std.proofs.Common.{◌≡◌, ◌++◌, take}
use Rattle.declaration_order.specs.steps.Waiting.{apart}
use Rattle.declaration_order.proofs.computing.add_apart.Given as goal

abbrev pub invariant-loop-target : goal.invariant-loop-target
invariant-loop-target l =
    l.row.items ≡ l.fn.row.items ++ apart l.numbers l.node (take l.target-index l.targets)
