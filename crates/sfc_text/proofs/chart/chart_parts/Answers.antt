use Rattle.std.proofs.Common.{rules, arith}
use Rattle.std.proofs.lemmas.Grind.{common_steps}
use Rattle.token_grammar.specs.steps.Parsers.{view, loop, repeated}
use Rattle.token_grammar.proofs.Turns.{one_more, no_more}
use Rattle.sfc_text.specs.steps.Parse.{chart_parts, more_parts, sees_part}
use Rattle.sfc_text.proofs.chart.chart_parts.Goals as goal

pub loop-turn-init : goal.loop-turn-init
unfolding chart_parts repeated
loop-turn-init c = first_of (search rules, grind (arith, common_steps))

pub returns-then-not-sees_part : goal.returns-then-not-sees_part
unfolding loop
returns-then-not-sees_part c =
    let e = one_more (λ n. loop sees_part more_parts n c.loop-turn.found (view c.loop-turn.cursor)) _
    c.loop-turn._turn c.loop-turn-test.true c.loop-turn.invariant in
    first_of (search rules, grind (arith, common_steps))

pub returns-in_err-more_parts : goal.returns-in_err-more_parts
unfolding loop
returns-in_err-more_parts c =
    let e = one_more (λ n. loop sees_part more_parts n c.loop-turn.found (view c.loop-turn.cursor)) _
    c.loop-turn._turn c.loop-turn-test.true c.loop-turn.invariant in
    first_of (search rules, grind (arith, common_steps))

pub loop-turn-preserved : goal.loop-turn-preserved
unfolding loop
loop-turn-preserved c =
    let e = one_more (λ n. loop sees_part more_parts n c.loop-turn.found (view c.loop-turn.cursor)) _
    c.loop-turn._turn c.loop-turn-test.true c.loop-turn.invariant in
    first_of (search rules, grind (arith, common_steps))

pub returns : goal.returns
unfolding loop
returns c =
    let e = no_more (λ n. loop sees_part more_parts n c.loop-turn.found (view c.loop-turn.cursor)) _
    c.loop-turn._turn c.loop-turn-test.false c.loop-turn.invariant in
    first_of (search rules, grind (arith, common_steps))
