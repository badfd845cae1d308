use Rattle.std.proofs.Common.{arith}
use Rattle.unit_rules.proofs.Repeating.{declares_is}
use Rattle.unit_rules.proofs.names.declares_same.Goals as goal

pub returns-then-other-row : goal.returns-then-other-row
returns-then-other-row c =
    declares_is c.args.row.now.scope c.args.row.now.name.now c.args.other.now c.is_same_name.result
    c.if-other-row.true c.is_same_name.ensures
