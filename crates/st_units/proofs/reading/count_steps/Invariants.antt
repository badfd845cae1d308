use Rattle.std.proofs.Common.{◌≡◌, ◌+◌}
use Rattle.st_units.proofs.reading.count_steps.Given as goal

abbrev pub invariant-loop-token : goal.invariant-loop-token
invariant-loop-token g l = record {
  parsed : l.steps.parsed ≡ l.fn.steps.parsed + l._token-index;
  solved : l.steps.solved ≡ l.fn.steps.solved;
}
