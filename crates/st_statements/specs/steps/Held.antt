-- What the code has read of a CASE, as the grammar's.
use Rattle.st_statements.specs.declared.cases.Branches.{Branches as HeldBranches}
use Rattle.st_statements.specs.steps.ReadTrees.{Branches}

abbrev pub branches_of : HeldBranches → Branches
branches_of b = record { done = b.done; labels = b.labels; body = b.body }
