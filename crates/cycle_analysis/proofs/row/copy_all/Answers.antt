use Rattle.std.proofs.Common.{arith}
use Rattle.cycle_analysis.proofs.Rows.{at_all}
use Rattle.cycle_analysis.proofs.row.copy_all.Goals as goal

pub returns : goal.returns
returns c = at_all _ _ (omega arith) (λ k h. c.loop-place.invariant.done k (omega arith))
