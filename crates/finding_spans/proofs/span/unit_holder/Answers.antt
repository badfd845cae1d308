use Rattle.std.proofs.Common.{◌∙◌, sym, ap, Some}
use Rattle.std.specs.Prelude.{unwrap_or}
use Rattle.finding_spans.proofs.Holders.{held_by_stmt, no_stmt, held_by_other}
use Rattle.finding_spans.proofs.span.unit_holder.Goals as goal

pub returns-in-Some : goal.returns-in-Some
returns-in-Some c = λ among.
    held_by_stmt c.args.node c.args.unit.now c.in-Some.statement.now among (c.in-Some.ensures among) ∙ ap (λ node. Some node) (sym c.own_node.ensures)

pub returns-in-None : goal.returns-in-None
returns-in-None c = λ among.
    let none = no_stmt c.args.node c.args.unit.now (c.in-None.ensures among) in
    held_by_other c.args.node c.args.unit.now among none ∙ ap (λ o. Some (unwrap_or o c.args.unit.now.node)) (sym (c.declaration_holder.ensures among none))
    ∙ ap (λ node. Some node) (sym c.unwrap_or.ensures)
