use Rattle.std.proofs.Common.{Some, Err, rules, ap, ◌∙◌, arith}
use Rattle.std.proofs.lemmas.Grind.{common_steps}
use Rattle.first_form.specs.Bare.{bare_expr}
use Rattle.first_form.specs.FirstForm.{sum, operand}
use Rattle.first_form.specs.steps.Answers.{Gives}
use Rattle.first_form.specs.steps.Chains.{chained}
use Rattle.first_form.specs.steps.Known.{known_in}
use Rattle.first_form.proofs.Chains.{chain_refused, first_refused, link_refused, one_joined, linked_rest, counted_more}
use Rattle.first_form.proofs.former.Former.sum.Goals as goal

pub returns-in_err-links-clause-form : goal.returns-in_err-links-clause-form
returns-in_err-links-clause-form c =
    let e : Gives bare_expr (sum (known_in c.args.declared.now) c.args.source.now)
    (Err c.in_err-links.field-0.0) =
    chain_refused (known_in c.args.declared.now) c.args.source.now c.in_err-links.field-0.0
    c.in_err-links.ensures.form in
    first_of (search rules, grind (arith, common_steps))

pub returns-in_err-value-clause-form : goal.returns-in_err-value-clause-form
returns-in_err-value-clause-form c =
    let known = known_in c.args.declared.now in
    let e : Gives bare_expr (sum known c.args.source.now) (Err c.in_err-value.field-0.0) =
    first_refused known c.args.source.now c.in_ok-links.field-0.links
    (operand known c.in_ok-links.field-0.first.now) (c.in_ok-links.ensures.form known)
    c.in_err-value.field-0.0 c.in_err-value.ensures.form in
    first_of (search rules, grind (arith, common_steps))

pub returns-in_err-value-2-clause-form : goal.returns-in_err-value-2-clause-form
returns-in_err-value-2-clause-form c =
    let known = known_in c.args.declared.now in
    let e : Gives bare_expr (sum known c.args.source.now) (Err c.in_err-value-2.field-0.0) =
    link_refused known c.args.source.now c.loop-link.links (Some (bare_expr c.loop-link.value))
    c.loop-link.invariant.form c.pop.new.self c.in-Some.link c.in-Some.ensures
    c.in_err-value-2.field-0.0 c.in_err-value-2.ensures.form in
    first_of (search rules, grind (arith, common_steps))

pub loop-link-preserved : goal.loop-link-preserved
loop-link-preserved c =
    let known = known_in c.args.declared.now in
    record {
      form = one_joined known c.args.source.now c.loop-link.links
          (Some (bare_expr c.loop-link.value)) c.loop-link.invariant.form c.pop.new.self
          c.in-Some.link c.in-Some.ensures
          ∙ ap (chained known c.pop.new.self) c.in_ok-value-2.ensures.form;
      linked = linked_rest c.args.self.now.next 0 0 c.loop-link.links c.pop.new.self c.in-Some.link
          c.in-Some.ensures c.loop-link.invariant.linked;
      counted = counted_more c.args.self.now.next c.loop-link.self.next c.joined.new.self.next
          c.loop-link.links c.pop.new.self c.in-Some.link c.in-Some.ensures
          c.loop-link.invariant.linked
          c.loop-link.value c.in_ok-value-2.value c.loop-link.invariant.counted
          c.in_ok-value-2.ensures.numbers;
    }
