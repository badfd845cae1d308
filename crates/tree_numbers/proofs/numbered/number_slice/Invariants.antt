use Rattle.std.proofs.Common.{◌≡◌, map, take, drop}
use Rattle.tree_numbers.specs.steps.Turns.{each}
use Rattle.tree_numbers.proofs.Turns.{behind}
use Rattle.tree_numbers.proofs.numbered.number_slice.Given as goal

abbrev pub invariant-loop-i : goal.invariant-loop-i
invariant-loop-i g l =
    each (map g.T.Numbered.counted l.initial.trees) l.initial.counting
    ≡ behind (take l.i l.trees) (each (map g.T.Numbered.counted (drop l.i l.trees)) l.counting)
