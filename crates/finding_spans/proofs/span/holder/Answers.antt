use Rattle.finding_spans.proofs.Holders.{no_unit, held_in_unit}
use Rattle.finding_spans.proofs.span.holder.Goals as goal

pub returns-in_err-unit_of : goal.returns-in_err-unit_of
returns-in_err-unit_of c = λ among. absurd (no_unit c.args.node c.args.tree.now among (c.in_err-unit_of.ensures among))

pub returns : goal.returns
returns c = λ among. held_in_unit c.args.node c.args.tree.now c.in_ok-unit_of.field-0.now c.unit_holder.result among (c.in_ok-unit_of.ensures among) c.unit_holder.ensures
