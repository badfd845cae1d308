use Rattle.std.proofs.Common.{arith, ◌≡◌, ◌∙◌, true, subst, List, ℕ, sym, ap}
use Rattle.std.specs.Prelude.{slice_set}
use Rattle.std.specs.List.{list_all}
use Rattle.project_keeper.specs.declared.rows.ProjectRow.{ProjectRow}
use Rattle.project_keeper.specs.Names.{is_name}
use Rattle.project_keeper.specs.Projects.{with_edit}
use Rattle.project_keeper.specs.Keeping.{is_lawful_project, is_lawful_caller, is_caller, own_of, HasRoom}
use Rattle.project_keeper.proofs.Tables.{IsFirstAt, first_at, nowhere, on_ok_by, on_err_by, own_at, own_set, own_nowhere, changed_rows, set_same, all_set, all_at, both_true, and_is_true}
use Rattle.project_keeper.proofs.table.append.Goals as goal

pub returns-then-at-len-clause-appended : goal.returns-then-at-len-clause-appended
returns-then-at-len-clause-appended c room =
    let name = c.args.caller.now in
    let callers = c.args.callers.now in
    let item = c.item_mut.result.now in
    let first : IsFirstAt (is_caller name) callers c.caller_place-at.result item = first_at (is_caller name) callers c.caller_place-at.result item (rw c.as_slice.ensures at c.caller_place-at.ensures) c.item_mut.ensures.value in
    let own : own_of callers name ≡ item.projects = own_at name callers c.caller_place-at.result item first in
    on_ok_by c.append_to.result (c.append_to.ensures.appended (subst (HasRoom c.args.project.now) own room))
    (λ e other. own_set name callers c.caller_place-at.result item c.append_to.new.projects other first
    ∙ changed_rows name callers (with_edit c.args.project.now c.args.edit) other c.append_to.new.projects (e ∙ ap (with_edit c.args.project.now c.args.edit) (sym own)))

pub returns-then-at-len-clause-refused : goal.returns-then-at-len-clause-refused
returns-then-at-len-clause-refused c =
    let name = c.args.caller.now in
    let callers = c.args.callers.now in
    let item = c.item_mut.result.now in
    on_err_by c.append_to.result c.append_to.ensures.refused
    (λ e. rw e (set_same (is_caller name) callers c.caller_place-at.result item (first_at (is_caller name) callers c.caller_place-at.result item (rw c.as_slice.ensures at c.caller_place-at.ensures) c.item_mut.ensures.value)))

pub returns-then-at-len-clause-lawful : goal.returns-then-at-len-clause-lawful
returns-then-at-len-clause-lawful c h =
    let name = c.args.caller.now in
    let callers = c.args.callers.now in
    let item = c.item_mut.result.now in
    let first : IsFirstAt (is_caller name) callers c.caller_place-at.result item = first_at (is_caller name) callers c.caller_place-at.result item (rw c.as_slice.ensures at c.caller_place-at.ensures) c.item_mut.ensures.value in
    let was = both_true (is_name item.name) (list_all is_lawful_project item.projects) (all_at is_lawful_caller (is_caller name) callers c.caller_place-at.result item first h) in
    all_set is_lawful_caller callers c.caller_place-at.result (record { name = item.name; projects = c.append_to.new.projects }) h
    (and_is_true (is_name item.name) (list_all is_lawful_project c.append_to.new.projects) was.0 (c.append_to.ensures.lawful was.1))

pub returns-else-at-len-clause-appended : goal.returns-else-at-len-clause-appended
returns-else-at-len-clause-appended c room =
    absurd (subst (HasRoom c.args.project.now) (own_nowhere c.args.caller.now c.args.callers.now (nowhere (is_caller c.args.caller.now) c.args.callers.now (omega (arith, c.if-at-len.false, c.len.ensures, rw c.as_slice.ensures at c.caller_place-at.ensures)))) room)
