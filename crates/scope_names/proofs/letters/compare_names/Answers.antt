use Rattle.std.proofs.Common.{◌<◌, ◌≤◌, length, arith, ◌∙◌}
use Rattle.scope_names.proofs.Comparing.{ended}
use Rattle.scope_names.proofs.letters.compare_names.Goals as goal
use Rattle.scope_names.proofs.letters.compare_names.Goals.{then-loop-at-test+else-at-b, else-loop-at-test}

pub returns : goal.returns
returns c =
    let at = c.loop-at.at in
    let stops : at < length c.args.a.now → length c.args.b.now ≤ at =
    elim c.loop-at-test.branch [ then-loop-at-test+else-at-b w ↦ λ h. omega arith | else-loop-at-test w ↦ λ h. omega arith ] in
    c.cmp-2.ensures ∙ ended at c.args.a.now c.args.b.now (omega arith) (omega arith) stops ∙ c.loop-at.invariant.rest
