use Rattle.std.proofs.Common.{sym, ◌∙◌}
use Rattle.station_settings.proofs.Tables.{wrong_size}
use Rattle.station_settings.proofs.callers.caller_in.Goals as goal

pub returns-else-len-eq2 : goal.returns-else-len-eq2
returns-else-len-eq2 c = sym (wrong_size c.args.table.now.entries (λ e. c.if-len-eq2.false (c.len.ensures.len ∙ e)))
