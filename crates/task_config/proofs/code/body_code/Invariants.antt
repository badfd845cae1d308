-- The code so far is that of the statements from this place on.
use Rattle.std.proofs.Common.{◌≡◌, ◌≤◌, length, drop}
use Rattle.st_tree.specs.Code.{reading}
use Rattle.task_config.specs.Written.{place_in, written_body}
use Rattle.task_config.proofs.code.body_code.Given as goal

abbrev pub invariant-loop-at : goal.invariant-loop-at
invariant-loop-at l = record {
  within : l.at ≤ length l.body;
  written : reading l.code ≡ written_body (place_in (λ key. key.now) l.cells) (drop l.at l.body);
}

abbrev pub decreases-loop-at : goal.decreases-loop-at
decreases-loop-at l = l.at
