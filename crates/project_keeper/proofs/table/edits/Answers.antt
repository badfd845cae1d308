use Rattle.std.proofs.Common.{◌≡◌, ◌∙◌, true, sym, subst, List}
use Rattle.project_keeper.specs.declared.edit.Edit.{Edit}
use Rattle.project_keeper.specs.Keeping.{are_lawful_edits}
use Rattle.project_keeper.proofs.Tables.{edits_lawful}
use Rattle.project_keeper.proofs.table.edits.Goals as goal

pub returns-in_ok-copy_edits-in-Some-clause-lawful : goal.returns-in_ok-copy_edits-in-Some-clause-lawful
returns-in_ok-copy_edits-in-Some-clause-lawful c h =
    subst (λ (es : List Edit). are_lawful_edits es ≡ true) (sym (c.in_ok-copy_edits-in-Some.ensures ∙ c.as_slice.ensures))
    (edits_lawful c.args.project.now c.own.result.now c.in-Some.row.now.edits c.in-Some.ensures (c.own.ensures.lawful h))
