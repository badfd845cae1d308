use Rattle.std.proofs.Common.{◌≡◌, map, take, drop}
use Rattle.tree_numbers.specs.steps.Turns.{each}
use Rattle.tree_numbers.specs.steps.Counted.{counted_branch, counted_case, counted_stmt}
use Rattle.tree_numbers.proofs.Turns.{behind}
use Rattle.tree_numbers.proofs.statements.+statement.Given as goal

abbrev pub invariant-number_in_branch_slice-loop-i : goal.invariant-number_in_branch_slice-loop-i
invariant-number_in_branch_slice-loop-i l = record {
  unvisited : goal.unvisited-number_in_branch_slice-loop-i l;
  so_far :
      each (map counted_branch l.initial.trees) l.initial.counting
      ≡ behind (take l.i l.trees) (each (map counted_branch (drop l.i l.trees)) l.counting);
}

abbrev pub invariant-number_in_case_slice-loop-i : goal.invariant-number_in_case_slice-loop-i
invariant-number_in_case_slice-loop-i l = record {
  unvisited : goal.unvisited-number_in_case_slice-loop-i l;
  so_far :
      each (map counted_case l.initial.trees) l.initial.counting
      ≡ behind (take l.i l.trees) (each (map counted_case (drop l.i l.trees)) l.counting);
}

abbrev pub invariant-number_in_stmt_slice-loop-i : goal.invariant-number_in_stmt_slice-loop-i
invariant-number_in_stmt_slice-loop-i l = record {
  unvisited : goal.unvisited-number_in_stmt_slice-loop-i l;
  so_far :
      each (map counted_stmt l.initial.trees) l.initial.counting
      ≡ behind (take l.i l.trees) (each (map counted_stmt (drop l.i l.trees)) l.counting);
}
