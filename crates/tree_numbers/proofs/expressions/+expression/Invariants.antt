use Rattle.std.proofs.Common.{◌≡◌, map, take, drop}
use Rattle.tree_numbers.specs.steps.Turns.{each}
use Rattle.tree_numbers.specs.steps.Counted.{counted_argument, counted_expr, counted_part}
use Rattle.tree_numbers.proofs.Turns.{behind}
use Rattle.tree_numbers.proofs.expressions.+expression.Given as goal

abbrev pub invariant-number_in_arguments-loop-i : goal.invariant-number_in_arguments-loop-i
invariant-number_in_arguments-loop-i l = record {
  unvisited : goal.unvisited-number_in_arguments-loop-i l;
  so_far :
      each (map counted_argument l.initial.trees) l.initial.counting
      ≡ behind (take l.i l.trees) (each (map counted_argument (drop l.i l.trees)) l.counting);
}

abbrev pub invariant-number_in_exprs-loop-i : goal.invariant-number_in_exprs-loop-i
invariant-number_in_exprs-loop-i l = record {
  unvisited : goal.unvisited-number_in_exprs-loop-i l;
  so_far :
      each (map counted_expr l.initial.trees) l.initial.counting
      ≡ behind (take l.i l.trees) (each (map counted_expr (drop l.i l.trees)) l.counting);
}

abbrev pub invariant-number_in_parts-loop-i : goal.invariant-number_in_parts-loop-i
invariant-number_in_parts-loop-i l = record {
  unvisited : goal.unvisited-number_in_parts-loop-i l;
  so_far :
      each (map counted_part l.initial.trees) l.initial.counting
      ≡ behind (take l.i l.trees) (each (map counted_part (drop l.i l.trees)) l.counting);
}
