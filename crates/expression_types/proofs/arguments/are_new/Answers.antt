use Rattle.std.proofs.Common.{◌∙◌}
use Rattle.st_tree.specs.declared.expression.Argument.{Argument}
use Rattle.expression_types.proofs.Steps.{apart_told}
use Rattle.expression_types.proofs.arguments.are_new.Goals as goal

pub loop-i-preserved : goal.loop-i-preserved
loop-i-preserved g c =
    let f = (g.M.Meaning.parts c.args.meaning.now).function c.args.function in
    c.loop-i.invariant
    ∙ apart_told f (λ (a : Argument). a.name) c.args.arguments.now c.loop-i.i
    c.index-arguments-i.result c.is_apart.result c.loop-i-test.true c.index-arguments-i.is
    c.is_apart.ensures c.if-not-is_apart.false
