use Rattle.std.proofs.Common.{◌≡◌, take}
use Rattle.tree_copies.proofs.expressions.+expression.Given as goal

abbrev pub invariant-copy_arguments-loop-tree : goal.invariant-copy_arguments-loop-tree
invariant-copy_arguments-loop-tree l = l.made ≡ take l.tree-index l.trees

abbrev pub invariant-copy_exprs-loop-tree : goal.invariant-copy_exprs-loop-tree
invariant-copy_exprs-loop-tree l = l.made ≡ take l.tree-index l.trees

abbrev pub invariant-copy_parts-loop-tree : goal.invariant-copy_parts-loop-tree
invariant-copy_parts-loop-tree l = l.made ≡ take l.tree-index l.trees
