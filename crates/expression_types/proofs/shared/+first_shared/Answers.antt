use Rattle.expression_types.proofs.Sharing.{head_fails}
use Rattle.expression_types.proofs.shared.+first_shared.Goals as goal

pub returns-else-all_go_to : goal.returns-else-all_go_to
returns-else-all_go_to t c =
    head_fails _ _ _ _ _ c.in-len1-up.len_at_least c.all_go_to.ensures c.if-all_go_to.false
    c.first_shared.ensures
