use Rattle.std.proofs.Common.{◌≡◌}
use Rattle.st_tree.specs.Code.{Done, reading}
use Rattle.tree_copies.specs.steps.Reversed.{reversed_onto}
use Rattle.tree_copies.proofs.code.reversed.Given as goal

abbrev pub invariant-loop-rest : goal.invariant-loop-rest
invariant-loop-rest l =
    reversed_onto (reading l.rest) (reading l.made) ≡ reversed_onto (reading l.code) Done
