use Rattle.std.proofs.Common.{◌≡◌, ◌+◌, [], ◌++◌, drop, Err, sym, ap, ◌∙◌, rules, arith}
use Rattle.std.proofs.lemmas.Grind.{common_steps}
use Rattle.first_form.specs.Names.{declared, declared_in}
use Rattle.first_form.specs.steps.Known.{known_in, none, Declares}
use Rattle.first_form.proofs.Known.{adding_more, adding_told, adding_known, declares_refused, new_from_none}
use Rattle.first_form.proofs.Made.{at_item, at_end}
use Rattle.first_form.proofs.names.Declared.of.Goals as goal

pub returns-in_err-add_decls : goal.returns-in_err-add_decls
returns-in_err-add_decls c =
    let sections = c.args.sections.now in
    let i = c.loop-section.section-index in
    let here : declared_in (drop i sections) ≡ declared c.as_slice.result.now ++ declared_in
    (drop (i + 1) sections) =
    ap declared_in (at_item sections i c.section-item.result c.loop-section-test.true
    c.section-item.is) ∙ ap (λ decls. declared decls ++ declared_in (drop (i + 1) sections))
    (sym c.as_slice.ensures) in
    let e : Declares (declared_in sections) (Err c.in_err-add_decls.field-0.0) =
    declares_refused (known_in c.loop-section.declared) (known_in c.add_decls.new.self)
    (declared_in sections) (declared_in (drop i sections))
    (declared c.as_slice.result.now) (declared_in (drop (i + 1) sections))
    c.in_err-add_decls.field-0.0 c.loop-section.invariant here c.in_err-add_decls.ensures in
    first_of (search rules, grind (arith, common_steps))

pub loop-section-preserved : goal.loop-section-preserved
loop-section-preserved c =
    let sections = c.args.sections.now in
    let i = c.loop-section.section-index in
    let here : declared_in (drop i sections) ≡ declared c.as_slice.result.now ++ declared_in
    (drop (i + 1) sections) =
    ap declared_in (at_item sections i c.section-item.result c.loop-section-test.true
    c.section-item.is) ∙ ap (λ decls. declared decls ++ declared_in (drop (i + 1) sections))
    (sym c.as_slice.ensures) in
    adding_more none (known_in c.loop-section.declared) (known_in c.add_decls.new.self)
    (declared_in sections) (declared_in (drop i sections)) (declared c.as_slice.result.now)
    (declared_in (drop (i + 1) sections))
    c.loop-section.invariant here c.in_ok-add_decls.ensures.0 c.in_ok-add_decls.ensures.1

pub returns : goal.returns
returns c =
    let sections = c.args.sections.now in
    let done : declared_in (drop c.loop-section.section-index sections) ≡ [] =
    ap declared_in (at_end sections c.loop-section.section-index c.loop-section-test.false) in (
      sym (new_from_none (declared_in sections))
          ∙ adding_told none (known_in c.loop-section.declared) (declared_in sections)
          (declared_in (drop c.loop-section.section-index sections)) c.loop-section.invariant done,
      adding_known none (known_in c.loop-section.declared) (declared_in sections)
          (declared_in (drop c.loop-section.section-index sections)) c.loop-section.invariant done,
    )
