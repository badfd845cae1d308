use Rattle.std.proofs.Common.{refl, map}
use Rattle.body_rules.specs.Surroundings.{here}
use Rattle.body_rules.specs.Statements.{each, each_case, known_cases, stmt, branch, case}
use Rattle.body_rules.specs.steps.Around.{around}
use Rattle.body_rules.specs.Labels.{selected}
use Rattle.body_rules.proofs.Told.{answered}
use Rattle.body_rules.proofs.Rolled.{if_told, case_told}
use Rattle.body_rules.proofs.Turns.{turn}
use Rattle.body_rules.proofs.statements.+statement.Goals as goal

pub statements-loop-each-preserved : goal.statements-loop-each-preserved
statements-loop-each-preserved g t c =
    let o = c.args.outside.now in
    let h = here (g.B.Names.names o) (g.B.Meaning.parts o) (g.B.Bodies.around o) c.args.file in
    let loops = around c.args.loops.now in
    turn (λ ss. each (map (stmt h) ss) loops) (λ s. stmt h s loops) (λ e es. refl) c.args.list.now
    c.loop-each.each-index c.each-item.result _ _ _ c.loop-each-test.true c.each-item.is
    c.loop-each.invariant c.statement.ensures

pub branches-loop-each-preserved : goal.branches-loop-each-preserved
branches-loop-each-preserved g t c =
    let o = c.args.outside.now in
    let h = here (g.B.Names.names o) (g.B.Meaning.parts o) (g.B.Bodies.around o) c.args.file in
    let loops = around c.args.loops.now in
    turn (λ bs. each (map (branch h) bs) loops) (λ b. branch h b loops) (λ e es. refl)
    c.args.list.now c.loop-each.each-index c.each-item.result _ _ _ c.loop-each-test.true
    c.each-item.is c.loop-each.invariant c.branch_of_if.ensures

pub cases-loop-each-preserved : goal.cases-loop-each-preserved
cases-loop-each-preserved g t c =
    let o = c.args.outside.now in
    let h = here (g.B.Names.names o) (g.B.Meaning.parts o) (g.B.Bodies.around o) c.args.file in
    let loops = around c.args.loops.now in
    turn (λ bs. each_case (map (case h) bs) c.args.selector loops) (λ b. case h b c.args.selector loops)
    (λ e es. refl) c.args.list.now c.loop-each.each-index c.each-item.result _ _ _
    c.loop-each-test.true c.each-item.is c.loop-each.invariant c.branch_of_case.ensures

pub selection-returns : goal.selection-returns
selection-returns g t c =
    let o = c.args.outside.now in
    let h = here (g.B.Names.names o) (g.B.Meaning.parts o) (g.B.Bodies.around o) c.args.file in
    answered (selected h c.args.e.now)
    (known_cases (map (case h) c.args.list.now) (around c.args.loops.now)) _ _ _ _
    c.selected-selector.ensures c.known_cases.ensures

pub statement-returns-in-Some : goal.statement-returns-in-Some
statement-returns-in-Some g t c =
    let o = c.args.outside.now in
    let h = here (g.B.Names.names o) (g.B.Meaning.parts o) (g.B.Bodies.around o) c.args.file in
    if_told h c.args.s.now _ _ _ _ _ _ (around c.args.loops.now) _ _ _ c.in-If.is c.in-Some.is
    c.as_slice-in-Some.ensures c.as_slice-in-Some-2.ensures c.branches-in-Some.ensures
    c.statements.ensures

pub statement-returns-in-Some-others : goal.statement-returns-in-Some-others
statement-returns-in-Some-others g t c =
    let o = c.args.outside.now in
    let h = here (g.B.Names.names o) (g.B.Meaning.parts o) (g.B.Bodies.around o) c.args.file in
    case_told h c.args.s.now _ _ _ _ _ _ _ _ (around c.args.loops.now) _ _ _ c.in-Case.is
    c.in-Some-others.is c.get-in-Some-others.ensures c.as_slice-in-Some-others.ensures
    c.as_slice-in-Some-others-2.ensures c.selection-in-Some-others.ensures
    c.statements-in-Some-others.ensures
