-- A name that no argument has, where there is one: a step on the way.
use Rattle.std.specs.Prelude.{ℕ, Bool, false, List, Option, Some, None}
use Rattle.st_tree.specs.declared.statement.StmtArgument.{StmtArgument}
use Rattle.body_rules.specs.Calls as calls

abbrev pub is_missing : List StmtArgument → Option (List ℕ) → Bool
is_missing arguments None = false
is_missing arguments (Some name) = calls.is_missing arguments name
