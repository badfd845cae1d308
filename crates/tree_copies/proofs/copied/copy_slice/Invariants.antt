use Rattle.std.proofs.Common.{◌≡◌, take}
use Rattle.tree_copies.proofs.copied.copy_slice.Given as goal

abbrev pub invariant-loop-tree : goal.invariant-loop-tree
invariant-loop-tree g l = l.made ≡ take l.tree-index l.trees
