use Rattle.std.proofs.Common.{◌≡◌, map, take, drop}
use Rattle.tree_numbers.specs.steps.Turns.{each}
use Rattle.tree_numbers.specs.steps.Counted.{counted_item, counted_field}
use Rattle.tree_numbers.proofs.Turns.{behind}
use Rattle.tree_numbers.proofs.declarations.+init.Given as goal

abbrev pub invariant-number_in_items-loop-i : goal.invariant-number_in_items-loop-i
invariant-number_in_items-loop-i l = record {
  unvisited : goal.unvisited-number_in_items-loop-i l;
  so_far :
      each (map counted_item l.initial.trees) l.initial.counting
      ≡ behind (take l.i l.trees) (each (map counted_item (drop l.i l.trees)) l.counting);
}

abbrev pub invariant-number_in_fields-loop-i : goal.invariant-number_in_fields-loop-i
invariant-number_in_fields-loop-i l = record {
  unvisited : goal.unvisited-number_in_fields-loop-i l;
  so_far :
      each (map counted_field l.initial.trees) l.initial.counting
      ≡ behind (take l.i l.trees) (each (map counted_field (drop l.i l.trees)) l.counting);
}
