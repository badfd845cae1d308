use Rattle.std.proofs.Common.{Some, None}
use Rattle.std.proofs.lemmas.Option.{none-some, same_Some}
use Rattle.finding_spans.proofs.Nested.{unit_found, statement_found}
use Rattle.finding_spans.proofs.span.statement_of.Goals as goal

pub returns-in_err-unit : goal.returns-in_err-unit
returns-in_err-unit c = λ numbered unit stmt u b n. absurd (none-some unit (unit_found c.args.tree.now c.args.node unit stmt numbered u b n None c.in_err-unit.ensures))

pub returns-in_err-statement : goal.returns-in_err-statement
returns-in_err-statement c = λ numbered unit stmt u b n.
    let e = same_Some _ _ (unit_found c.args.tree.now c.args.node unit stmt numbered u b n (Some c.in_ok-unit.unit.now) c.in_ok-unit.ensures) in
    absurd (none-some stmt (statement_found c.args.tree.now c.args.node unit stmt numbered u b n c.in_ok-unit.unit.now None e c.in_err-statement.ensures))

pub returns : goal.returns
returns c = λ numbered unit stmt u b n.
    let e = same_Some _ _ (unit_found c.args.tree.now c.args.node unit stmt numbered u b n (Some c.in_ok-unit.unit.now) c.in_ok-unit.ensures) in
    (e, same_Some _ _ (statement_found c.args.tree.now c.args.node unit stmt numbered u b n c.in_ok-unit.unit.now (Some c.in_ok-statement.statement.now) e c.in_ok-statement.ensures))
