use Rattle.std.proofs.Common.{◌≡◌, drop}
use Rattle.body_rules.specs.Calls.{is_given_twice}
use Rattle.body_rules.proofs.calls.is_given_twice.Given as goal

abbrev pub invariant-loop-i : goal.invariant-loop-i
invariant-loop-i l = is_given_twice l.arguments ≡ is_given_twice (drop l.i l.arguments)
