use Rattle.std.proofs.Common.{take_all, subst, arith}
use Rattle.type_parts.specs.steps.Marks.{AreMarked}
use Rattle.type_parts.proofs.twice.marked.Goals as goal

pub returns : goal.returns
returns c lists t =
    subst (λ rows. AreMarked lists c.args.count rows c.loop-row.twice.items)
    (take_all c.loop-row.row-index c.args.names.now (grind (arith, c.loop-row-test.false)))
    (c.loop-row.invariant lists t)
