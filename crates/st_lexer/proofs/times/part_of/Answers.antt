use Rattle.st_lexer.proofs.TimeParts.{ten_pos}
use Rattle.st_lexer.proofs.times.part_of.Goals as goal

pub nonzero_rem-scaled : goal.nonzero_rem-scaled
nonzero_rem-scaled c = rw c.pow-scale.ensures (ten_pos c.saturating_sub.result)

pub nonzero_div-result : goal.nonzero_div-result
nonzero_div-result c = rw c.pow-scale.ensures (ten_pos c.saturating_sub.result)
