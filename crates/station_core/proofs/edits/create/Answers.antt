use Rattle.std.proofs.Common.{arith, ◌≡◌, ◌∙◌, true, false, length, sym, ap, subst, refl}
use Rattle.std.specs.List.{list_any}
use Rattle.std.proofs.lemmas.List.{length-map}
use Rattle.project_keeper.specs.declared.rows.ProjectRow.{ProjectRow}
use Rattle.project_keeper.specs.declared.request.Reply.TheVariants.{Created}
use Rattle.project_keeper.specs.Projects.{has_project}
use Rattle.station_core.specs.Answer.{Outcome, rows_after}
use Rattle.station_core.specs.Commands.{IsSaid}
use Rattle.station_core.proofs.Outcomes.{names_have, create_exists, create_full, create_done}
use Rattle.station_core.proofs.edits.create.Goals as goal

pub returns-then-contains-clause-answer : goal.returns-then-contains-clause-answer
returns-then-contains-clause-answer g c m h t =
    let own = m c.args.caller.now in
    let there : has_project c.args.project.now own ≡ true = sym (names_have c.args.project.now own) ∙ ap (list_any _) (sym (c.as_slice.ensures ∙ c.in-Ok.ensures.names m h t)) ∙ sym c.contains.ensures ∙ c.if-contains.true in
    subst (λ (o : Outcome). IsSaid o.answer c.refused.result × g.K.Keeper.holds c.projects.new.self (rows_after c.args.caller.now o.change m)) (sym (create_exists own c.args.project.now there))
    (c.refused.ensures, c.in-Ok.ensures.kept m h)

pub returns-then-len-ge-MAX_PROJECTS-clause-answer : goal.returns-then-len-ge-MAX_PROJECTS-clause-answer
returns-then-len-ge-MAX_PROJECTS-clause-answer g c m h t =
    let own = m c.args.caller.now in
    let there : has_project c.args.project.now own ≡ false = sym (names_have c.args.project.now own) ∙ ap (list_any _) (sym (c.as_slice.ensures ∙ c.in-Ok.ensures.names m h t)) ∙ sym c.contains.ensures ∙ c.if-contains.false in
    let many : length own ≡ length c.in-Ok.names = sym (length-map own (λ (row : ProjectRow). row.name)) ∙ ap length (sym (c.in-Ok.ensures.names m h t)) in
    subst (λ (o : Outcome). IsSaid o.answer c.refused-then-len-ge-MAX_PROJECTS.result × g.K.Keeper.holds c.projects.new.self (rows_after c.args.caller.now o.change m)) (sym (create_full own c.args.project.now there (omega (arith, many, c.len.ensures, c.if-len-ge-MAX_PROJECTS.true))))
    (c.refused-then-len-ge-MAX_PROJECTS.ensures, c.in-Ok.ensures.kept m h)

pub returns-in-Ok-create-clause-answer : goal.returns-in-Ok-create-clause-answer
returns-in-Ok-create-clause-answer g c m h t =
    let own = m c.args.caller.now in
    let told = c.in-Ok-create.ensures.told t in
    let there : has_project c.args.project.now own ≡ false = sym (names_have c.args.project.now own) ∙ ap (list_any _) (sym (c.as_slice.ensures ∙ c.in-Ok.ensures.names m h told)) ∙ sym c.contains.ensures ∙ c.if-contains.false in
    let many : length own ≡ length c.in-Ok.names = sym (length-map own (λ (row : ProjectRow). row.name)) ∙ ap length (sym (c.in-Ok.ensures.names m h told)) in
    subst (λ (o : Outcome). IsSaid o.answer Created × g.K.Keeper.holds c.create.new.self (rows_after c.args.caller.now o.change m)) (sym (create_done own c.args.project.now there (omega (arith, many, c.len.ensures, c.if-len-ge-MAX_PROJECTS.false))))
    (refl, c.in-Ok-create.ensures.created m (c.in-Ok.ensures.kept m h) t there)
