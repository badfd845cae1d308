use Rattle.std.proofs.Common.{◌≡◌, ◌++◌, ◌∷◌, [], true, Err, rules, sym, ap, subst, ◌∙◌, arith}
use Rattle.std.specs.Prelude.{flat_map}
use Rattle.std.proofs.lemmas.Grind.{common_steps}
use Rattle.first_form.specs.Bare.{bare_unit}
use Rattle.first_form.specs.Nodes.{section_nodes, stmt_nodes}
use Rattle.first_form.specs.Names.{declared_in, has}
use Rattle.first_form.specs.FirstForm.{sections, unit_of, is_program, are_apart}
use Rattle.first_form.specs.steps.Answers.{Gives}
use Rattle.first_form.specs.steps.Known.{known_in, Declares}
use Rattle.first_form.proofs.Counting.{counts_cons, counts_append}
use Rattle.first_form.proofs.Units.{twice_refused, body_refused, unit_made}
use Rattle.first_form.proofs.former.Former.unit.Goals as goal

pub returns-in_err-declared-clause-form : goal.returns-in_err-declared-clause-form
returns-in_err-declared-clause-form c =
    let e : Gives bare_unit (unit_of c.args.source.now) (Err c.in_err-declared.field-0.0) =
    twice_refused c.args.source.now c.in_ok-sections.sections (ap sections (sym c.as_slice.ensures)
    ∙ c.in_ok-sections.ensures.form) c.in_err-declared.field-0.0
    (subst (λ ss. Declares (declared_in ss) (Err c.in_err-declared.field-0.0)) c.as_slice-2.ensures
    c.in_err-declared.ensures) in
    first_of (search rules, grind (arith, common_steps))

pub returns-in_err-body-clause-form : goal.returns-in_err-body-clause-form
returns-in_err-body-clause-form c =
    let e : Gives bare_unit (unit_of c.args.source.now) (Err c.in_err-body.field-0.0) =
    body_refused c.args.source.now c.in_ok-sections.sections (ap sections (sym c.as_slice.ensures)
    ∙ c.in_ok-sections.ensures.form) (known_in c.in_ok-declared.declared)
    (c.in_ok-declared.ensures.1 ∙ ap (λ ss. has (declared_in ss)) c.as_slice-2.ensures)
    c.in_err-body.field-0.0 c.in_err-body.ensures.form in
    first_of (search rules, grind (arith, common_steps))

pub returns-clause-form : goal.returns-clause-form
returns-clause-form c =
    let program : is_program c.args.source.now.kind ≡ true =
    cc (c.is_program.ensures, c.if-not-is_program.false) in
    unit_made c.args.source.now c.in_ok-sections.sections (ap sections (sym c.as_slice.ensures)
    ∙ c.in_ok-sections.ensures.form) (known_in c.in_ok-declared.declared)
    (c.in_ok-declared.ensures.1 ∙ ap (λ ss. has (declared_in ss)) c.as_slice-2.ensures)
    c.in_ok-node.node c.in_ok-name.name c.in_ok-body.body program
    (sym (ap (λ ss. are_apart (declared_in ss)) c.as_slice-2.ensures) ∙ c.in_ok-declared.ensures.0)
    c.in_ok-body.ensures.form c.in_ok-name.ensures.form c.in_ok-node.ensures.same

pub returns-clause-numbers : goal.returns-clause-numbers
returns-clause-numbers c =
    counts_cons c.in_ok-node.node _ _ _
    (c.in_ok-name.name.node ∷ (flat_map section_nodes c.in_ok-sections.sections ++ flat_map
    stmt_nodes c.in_ok-body.body)) c.in_ok-node.ensures.number c.in_ok-node.ensures.next
    (counts_append _ _ _ (c.in_ok-name.name.node ∷ [])
    (flat_map section_nodes c.in_ok-sections.sections ++ flat_map stmt_nodes c.in_ok-body.body)
    c.in_ok-name.ensures.numbers
    (counts_append _ _ _ (flat_map section_nodes c.in_ok-sections.sections)
    (flat_map stmt_nodes c.in_ok-body.body) c.in_ok-sections.ensures.numbers
    c.in_ok-body.ensures.numbers))
