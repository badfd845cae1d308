use Rattle.std.proofs.Common.{◌∙◌, sym, ap}
use Rattle.finding_spans.specs.Places.{last_of}
use Rattle.finding_spans.proofs.Holders.{no_section, in_section, no_decl, in_decl}
use Rattle.finding_spans.proofs.span.declaration_holder.Goals as goal

pub returns-in_err-section : goal.returns-in_err-section
returns-in_err-section c = λ among none. c.from_residual.ensures ∙ no_section c.args.node c.args.unit.now (c.in_err-section.ensures among none)

pub returns-in_err-decl : goal.returns-in_err-decl
returns-in_err-decl c = λ among none.
    let s = in_section c.args.node c.args.unit.now c.in_ok-section.section.now among none (c.in_ok-section.ensures among none) in
    c.from_residual-in_err-decl.ensures ∙ no_decl c.args.node c.in_ok-section.section.now (c.in_err-decl.ensures s.0) ∙ sym (ap last_of s.1)

pub returns : goal.returns
returns c = λ among none.
    let s = in_section c.args.node c.args.unit.now c.in_ok-section.section.now among none (c.in_ok-section.ensures among none) in
    let d = in_decl c.args.node c.in_ok-section.section.now c.in_ok-decl.decl.now s.0 (c.in_ok-decl.ensures s.0) in
    c.name_holder.ensures d.0 ∙ sym (ap last_of d.1) ∙ sym (ap last_of s.1)
