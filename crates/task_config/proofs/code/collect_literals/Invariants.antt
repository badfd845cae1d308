-- The literals of the statements so far are added.
use Rattle.std.proofs.Common.{◌≡◌, ◌++◌, take}
use Rattle.std.specs.Prelude.{flat_map}
use Rattle.task_config.specs.Written.{literals_of_stmt}
use Rattle.task_config.proofs.code.collect_literals.Given as goal

abbrev pub invariant-loop-statement : goal.invariant-loop-statement
invariant-loop-statement l = l.literals ≡ l.fn.literals ++ flat_map literals_of_stmt (take l.statement-index l.body)
