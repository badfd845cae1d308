use Rattle.std.proofs.Common.{rules, ◌≡◌, ℕ, ◌<◌, List, length, get_or}
use Rattle.std.specs.List.{HoldsAt}
use Rattle.std.specs.Ordering.{nat_cmp}
use Rattle.std.specs.declared.cmp.Ordering.TheVariants.{Equal}
use Rattle.std.specs.FinMap.{nat_cmp-IsAntisymmetric}
use Rattle.std.proofs.lemmas.Cmp.{nat_cmp_total}
use Rattle.std.proofs.lemmas.Fn.{always_returns_same}
use Rattle.std.proofs.lemmas.List.Elements.{Contains-get_or}
use Rattle.iec_tables.specs.declared.rule.Rule.{Rule}
use Rattle.iec_tables.specs.Rules.{IsRuleOf}
use Rattle.iec_tables.proofs.Rows.{searchable, no-row}
use Rattle.iec_tables.proofs.rule.find_rule.Goals as goal

rule-found : (rows : List Rule) (code i : ℕ) (d : Rule) → i < length rows → HoldsAt (λ rule. nat_cmp rule.code code ≡ Equal) rows i → IsRuleOf rows code (get_or rows i d)
rule-found rows code i d h at = record {
  there = Contains-get_or rows i d h;
  code_is = nat_cmp-IsAntisymmetric _ _ (at d);
}

pub returns-in-Ok : goal.returns-in-Ok
returns-in-Ok c =
    let at = c.in-Ok.ensures.position (λ rule. rule.code) (always_returns_same _ (λ a r. r ≡ a.0.now.code) _ (λ a r q called. search rules)) in
    rule-found c.args.rows.now c.args.code c.in-Ok.place _ c.in-Ok.ensures.bound at

pub returns-in-Err : goal.returns-in-Err
returns-in-Err c =
    let at = c.in-Err.ensures.position (λ rule. rule.code) (always_returns_same _ (λ a r. r ≡ a.0.now.code) _ (λ a r q called. search rules)) in
    no-row nat_cmp_total (λ rule. rule.code) c.args.rows.now c.args.code c.in-Err.field-0
    (at (searchable nat_cmp_total (λ rule. rule.code) c.args.rows.now c.args.code c.requires))
