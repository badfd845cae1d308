use Rattle.std.proofs.Common.{◌≡◌, List, MatchOption, subst}
use Rattle.iec_tables.specs.declared.rule.Rule.{Rule}
use Rattle.iec_tables.specs.Rules.{IsRuleOf, HasNoRule}
use Rattle.iec_tables.proofs.rule.Rules.find.Goals as goal

pub returns : goal.returns
returns g c =
    let view : c.self.inside.rows.now ≡ c.args.self.now = c.self.view_is in
    subst (λ (rows : List Rule). MatchOption c.find_rule.result (HasNoRule rows c.args.code) (IsRuleOf rows c.args.code)) view c.find_rule.ensures
