use Rattle.std.proofs.Common.{arith, ◌≡◌, ◌<◌, true, length, subst, List, sym, ap, Some}
use Rattle.std.specs.Prelude.{IsSomeAnd, Option, slice_set}
use Rattle.std.specs.List.{list_all, list_any}
use Rattle.project_keeper.specs.declared.edit.Edit.{Edit}
use Rattle.project_keeper.specs.declared.rows.ProjectRow.{ProjectRow}
use Rattle.project_keeper.specs.Names.{is_name}
use Rattle.project_keeper.specs.Projects.{is_named, with_edit}
use Rattle.project_keeper.specs.Keeping.{max_edits, are_lawful_edits, is_lawful_project}
use Rattle.project_keeper.proofs.Tables.{IsFirstAt, first_at, nowhere, on_ok_by, on_err_by, edits_at, edit_set, edit_nowhere, set_same, all_set, all_at, both_true, and_is_true}
use Rattle.project_keeper.proofs.table.append_to.Goals as goal

pub returns-then-at-len-clause-appended : goal.returns-then-at-len-clause-appended
returns-then-at-len-clause-appended c room =
    let name = c.args.project.now in
    let projects = c.args.projects.now in
    let item = c.item_mut.result.now in
    let first : IsFirstAt (is_named name) projects c.project_place-at.result item = first_at (is_named name) projects c.project_place-at.result item (rw c.as_slice.ensures at c.project_place-at.ensures) c.item_mut.ensures.value in
    let less : length item.edits < max_edits = subst (λ (o : Option (List Edit)). IsSomeAnd o (λ edits. length edits < max_edits)) (edits_at name projects c.project_place-at.result item first) room in
    on_ok_by c.add_edit.result (c.add_edit.ensures.added less)
    (λ e. rw e (edit_set name c.args.edit projects c.project_place-at.result item first))

pub returns-then-at-len-clause-refused : goal.returns-then-at-len-clause-refused
returns-then-at-len-clause-refused c =
    let name = c.args.project.now in
    let projects = c.args.projects.now in
    let item = c.item_mut.result.now in
    on_err_by c.add_edit.result c.add_edit.ensures.refused
    (λ e. rw e (set_same (is_named name) projects c.project_place-at.result item (first_at (is_named name) projects c.project_place-at.result item (rw c.as_slice.ensures at c.project_place-at.ensures) c.item_mut.ensures.value)))

pub returns-then-at-len-clause-lawful : goal.returns-then-at-len-clause-lawful
returns-then-at-len-clause-lawful c h =
    let name = c.args.project.now in
    let projects = c.args.projects.now in
    let item = c.item_mut.result.now in
    let first : IsFirstAt (is_named name) projects c.project_place-at.result item = first_at (is_named name) projects c.project_place-at.result item (rw c.as_slice.ensures at c.project_place-at.ensures) c.item_mut.ensures.value in
    let was = both_true (is_name item.name) (are_lawful_edits item.edits) (all_at is_lawful_project (is_named name) projects c.project_place-at.result item first h) in
    all_set is_lawful_project projects c.project_place-at.result (record { name = item.name; edits = c.add_edit.new.edits }) h
    (and_is_true (is_name item.name) (are_lawful_edits c.add_edit.new.edits) was.0 (c.add_edit.ensures.lawful c.requires.edit was.1))

pub returns-else-at-len-clause-appended : goal.returns-else-at-len-clause-appended
returns-else-at-len-clause-appended c room =
    edit_nowhere c.args.project.now c.args.edit c.args.projects.now
    (nowhere (is_named c.args.project.now) c.args.projects.now (omega (arith, c.if-at-len.false, c.len.ensures, rw c.as_slice.ensures at c.project_place-at.ensures)))
