use Rattle.std.proofs.Common.{◌≡◌, drop}
use Rattle.std.specs.List.{list_any}
use Rattle.body_rules.specs.Calls.{is_missing}
use Rattle.body_rules.proofs.calls.lacks_in_out.Given as goal

abbrev pub invariant-loop-i : goal.invariant-loop-i
invariant-loop-i g l =
    let names = (g.B.Bodies.around l.outside).in_outs l.shape in
    list_any (is_missing l.arguments) names ≡ list_any (is_missing l.arguments) (drop l.i names)
