use Rattle.std.proofs.Common.{◌≡◌, ◌∙◌, sym, ap, map, ◌++◌, true, append-nil, [], subst, List, ℕ}
use Rattle.std.specs.List.{list_all}
use Rattle.std.proofs.Math.ListN.{drop_of_length-le}
use Rattle.project_keeper.specs.declared.rows.ProjectRow.{ProjectRow}
use Rattle.project_keeper.specs.Names.{is_name}
use Rattle.project_keeper.proofs.Tables.{names_lawful}
use Rattle.project_keeper.proofs.table.project_names.Goals as goal

pub returns-clause-lawful : goal.returns-clause-lawful
returns-clause-lawful c h =
    let names = c.loop-project.names in
    let ended : names ++ [] ≡ map (λ (project : ProjectRow). project.name) c.args.projects.now =
    rw (drop_of_length-le c.args.projects.now c.loop-project-test.false) at c.loop-project.invariant in
    subst (λ (xs : List (List ℕ)). list_all is_name xs ≡ true) (sym (sym (append-nil names) ∙ ended)) (names_lawful c.args.projects.now h)
