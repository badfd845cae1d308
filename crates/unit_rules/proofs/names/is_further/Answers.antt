use Rattle.std.proofs.Common.{◌≡◌, ◌∙◌, take, sym}
use Rattle.project_declarations.specs.declared.scopes.TheConstants as scope
use Rattle.unit_rules.specs.Twice.{is_declared, is_same_value, row_before}
use Rattle.unit_rules.proofs.Repeating.{repeats_is, otherwise}
use Rattle.unit_rules.proofs.names.is_further.Goals as goal

pub returns-else-row-eq-VALUES : goal.returns-else-row-eq-VALUES
returns-else-row-eq-VALUES c =
    let rows = c.args.names.now in
    let at = c.args.at in
    let row = c.args.row.now in
    repeats_is rows at row c.repeats.result c.requires c.repeats.ensures
    ∙ sym (otherwise row.scope scope.VALUES (is_same_value (row_before rows at) row)
    (is_declared (take at rows) row) c.if-row-eq-VALUES.false)
