use Rattle.std.proofs.Common.{◌≡◌, subst}
use Rattle.std.specs.Prelude.{MatchOption, Option}
use Rattle.first_form.specs.declared.tree.SourceTree.{SourceTree}
use Rattle.first_form.specs.FirstForm.{IsFirstForm}
use Rattle.station_cli.specs.Report.{IsFormOf}
use Rattle.station_cli.proofs.Parsed.{analysable, starts_of_order}
use Rattle.station_cli.proofs.report.first_tree.Goals as goal

pub returns-in-Some : goal.returns-in-Some
returns-in-Some c = λ text is short.
    let file = c.args.file.now in
    let tree = c.in-Some.tree in
    let form : IsFirstForm file tree =
    subst (λ (found : Option SourceTree). MatchOption found ((t : SourceTree) → IsFirstForm file t → ⊥) (IsFirstForm file))
    c.in-Some.is c.in_ok-tree.ensures in
    let whole : IsFormOf text tree = record { file = file; parsed = is; form = form } in
    (whole, analysable c.form_laws.ensures.sound (starts_of_order c.order_laws.ensures.nodes) text tree short whole)
