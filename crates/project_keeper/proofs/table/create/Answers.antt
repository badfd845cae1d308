use Rattle.std.proofs.Common.{arith, ◌≡◌, ◌∙◌, ◌∷◌, [], true, false, subst, List, ℕ, sym, ap, refl}
use Rattle.std.specs.Prelude.{slice_set, bytes_eq}
use Rattle.std.specs.List.{list_all, list_any}
use Rattle.project_keeper.specs.declared.rows.ProjectRow.{ProjectRow}
use Rattle.project_keeper.specs.declared.rows.CallerRows.{CallerRows}
use Rattle.project_keeper.specs.Names.{is_name}
use Rattle.project_keeper.specs.Projects.{with_project}
use Rattle.project_keeper.specs.Keeping.{is_lawful_project, is_lawful_caller, is_caller, own_of}
use Rattle.project_keeper.proofs.Tables.{IsFirstAt, first_at, nowhere, either_way, on_ok_by, on_err_by, own_at, own_set, own_push, own_nowhere, changed_rows, set_same, all_set, all_at, all_push, both_true, and_is_true, project_added, new_lawful}
use Rattle.project_keeper.proofs.table.create.Goals as goal

pub returns-then-at-len-clause-created : goal.returns-then-at-len-clause-created
returns-then-at-len-clause-created c =
    let name = c.args.caller.now in
    let callers = c.args.callers.now in
    let item = c.item_mut.result.now in
    let ps = c.add_project.new.projects in
    let first : IsFirstAt (is_caller name) callers c.caller_place-at.result item = first_at (is_caller name) callers c.caller_place-at.result item (rw c.as_slice.ensures at c.caller_place-at.ensures) c.item_mut.ensures.value in
    let own : own_of callers name ≡ item.projects = own_at name callers c.caller_place-at.result item first in
    on_ok_by c.add_project.result c.add_project.ensures.added
    (λ e other. own_set name callers c.caller_place-at.result item ps other first
    ∙ changed_rows name callers (with_project c.args.project.now) other ps
    (project_added c.args.project.now c.in_ok-name.name c.new.result item.projects (own_of callers name) ps c.in_ok-name.ensures c.new.ensures (sym own) e))

pub returns-then-at-len-clause-refused : goal.returns-then-at-len-clause-refused
returns-then-at-len-clause-refused c =
    let name = c.args.caller.now in
    let callers = c.args.callers.now in
    let item = c.item_mut.result.now in
    on_err_by c.add_project.result c.add_project.ensures.refused
    (λ e. rw e (set_same (is_caller name) callers c.caller_place-at.result item (first_at (is_caller name) callers c.caller_place-at.result item (rw c.as_slice.ensures at c.caller_place-at.ensures) c.item_mut.ensures.value)))

pub returns-then-at-len-clause-lawful : goal.returns-then-at-len-clause-lawful
returns-then-at-len-clause-lawful c h =
    let name = c.args.caller.now in
    let callers = c.args.callers.now in
    let item = c.item_mut.result.now in
    let row : ProjectRow = record { name = c.in_ok-name.name; edits = c.new.result } in
    let first : IsFirstAt (is_caller name) callers c.caller_place-at.result item = first_at (is_caller name) callers c.caller_place-at.result item (rw c.as_slice.ensures at c.caller_place-at.ensures) c.item_mut.ensures.value in
    let was = both_true (is_name item.name) (list_all is_lawful_project item.projects) (all_at is_lawful_caller (is_caller name) callers c.caller_place-at.result item first h) in
    all_set is_lawful_caller callers c.caller_place-at.result (record { name = item.name; projects = c.add_project.new.projects }) h
    (and_is_true (is_name item.name) (list_all is_lawful_project c.add_project.new.projects) was.0
    (either_way c.add_project.result c.add_project.ensures.added c.add_project.ensures.refused
    (λ e. rw e (all_push is_lawful_project item.projects row was.1 (new_lawful c.args.project.now c.in_ok-name.name c.new.result c.in_ok-name.ensures c.new.ensures c.requires.project)))
    (λ e. rw e was.1)))

pub returns-else-at-len-clause-created : goal.returns-else-at-len-clause-created
returns-else-at-len-clause-created c =
    let name = c.args.caller.now in
    let callers = c.args.callers.now in
    let row : ProjectRow = record { name = c.in_ok-name.name; edits = c.new.result } in
    let none : list_any (is_caller name) callers ≡ false = nowhere (is_caller name) callers (omega (arith, c.if-at-len.false, c.len.ensures, rw c.as_slice.ensures at c.caller_place-at.ensures)) in
    on_ok_by c.add_caller.result c.add_caller.ensures.added
    (λ e other. ap (λ (rows : List CallerRows). own_of rows other) e ∙ own_push name callers (row ∷ []) other none
    ∙ changed_rows name callers (with_project c.args.project.now) other (row ∷ [])
    (project_added c.args.project.now c.in_ok-name.name c.new.result [] (own_of callers name) (row ∷ []) c.in_ok-name.ensures c.new.ensures (sym (own_nowhere name callers none)) refl))
