use Rattle.std.proofs.Common.{sym, subst, ◌∙◌, ◌<◌, ℕ}
use Rattle.body_rules.proofs.Missing.{missing_stop, missing_next}
use Rattle.body_rules.proofs.calls.lacks_in_out.Goals as goal

pub returns-then-is_missing : goal.returns-then-is_missing
returns-then-is_missing g c =
    let names = (g.B.Bodies.around c.args.outside.now).in_outs c.args.shape in
    let P : ℕ → Type 0 = λ n. c.loop-i.i < n in
    sym (c.loop-i.invariant ∙ missing_stop c.args.arguments.now names c.loop-i.i _
    (subst P c.in_out_count-i-end.ensures c.loop-i-test.true) c.is_missing.ensures
    c.if-is_missing.true)

pub loop-i-preserved : goal.loop-i-preserved
loop-i-preserved g c =
    let names = (g.B.Bodies.around c.args.outside.now).in_outs c.args.shape in
    let P : ℕ → Type 0 = λ n. c.loop-i.i < n in
    c.loop-i.invariant ∙ missing_next c.args.arguments.now names c.loop-i.i _
    (subst P c.in_out_count-i-end.ensures c.loop-i-test.true) c.is_missing.ensures
    c.if-is_missing.false
