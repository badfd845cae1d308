use Rattle.std.proofs.Common.{◌≡◌, ◌+◌, ◌*◌, take}
use Rattle.tree_copies.proofs.statements.+statement.Given as goal

abbrev pub invariant-copy_stmts-loop-tree : goal.invariant-copy_stmts-loop-tree
invariant-copy_stmts-loop-tree l = l.made ≡ take l.tree-index l.trees

abbrev pub invariant-copy_branches-loop-tree : goal.invariant-copy_branches-loop-tree
invariant-copy_branches-loop-tree l = l.made ≡ take l.tree-index l.trees

abbrev pub invariant-copy_cases-loop-tree : goal.invariant-copy_cases-loop-tree
invariant-copy_cases-loop-tree l = l.made ≡ take l.tree-index l.trees

-- the deepest of what lies within, and then which function calls which
abbrev pub decreases-copy_stmt : goal.decreases-copy_stmt
decreases-copy_stmt l = 3 * goal.size-copy_stmt l

abbrev pub decreases-copy_branch : goal.decreases-copy_branch
decreases-copy_branch l = 3 * goal.size-copy_branch l

abbrev pub decreases-copy_case : goal.decreases-copy_case
decreases-copy_case l = 3 * goal.size-copy_case l

abbrev pub decreases-copy_stmts : goal.decreases-copy_stmts
decreases-copy_stmts l = 3 * goal.size-copy_stmts l + 1

abbrev pub decreases-copy_branches : goal.decreases-copy_branches
decreases-copy_branches l = 3 * goal.size-copy_branches l + 1

abbrev pub decreases-copy_cases : goal.decreases-copy_cases
decreases-copy_cases l = 3 * goal.size-copy_cases l + 1

abbrev pub decreases-copy_else : goal.decreases-copy_else
decreases-copy_else l = 3 * goal.size-copy_else l + 2
