use Rattle.std.proofs.Common.{◌≡◌, drop}
use Rattle.body_rules.specs.Calls.{is_given}
use Rattle.body_rules.proofs.calls.is_given.Given as goal

abbrev pub invariant-loop-argument : goal.invariant-loop-argument
invariant-loop-argument l =
    is_given l.arguments l.name ≡ is_given (drop l.argument-index l.arguments) l.name
