use Rattle.std.proofs.Common.{◌≡◌, take}
use Rattle.tree_copies.proofs.declarations.+init.Given as goal

abbrev pub invariant-copy_items-loop-tree : goal.invariant-copy_items-loop-tree
invariant-copy_items-loop-tree l = l.made ≡ take l.tree-index l.trees

abbrev pub invariant-copy_fields-loop-tree : goal.invariant-copy_fields-loop-tree
invariant-copy_fields-loop-tree l = l.made ≡ take l.tree-index l.trees
