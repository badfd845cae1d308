use Rattle.std.proofs.Common.{◌≡◌, drop}
use Rattle.std.specs.List.{list_any}
use Rattle.body_rules.specs.Calls.{is_index}
use Rattle.body_rules.proofs.calls.has_index.Given as goal

abbrev pub invariant-loop-part : goal.invariant-loop-part
invariant-loop-part l =
    list_any is_index l.path.parts ≡ list_any is_index (drop l.part-index l.path.parts)
