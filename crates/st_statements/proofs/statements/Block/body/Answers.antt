use Rattle.std.proofs.Common.{rules, arith}
use Rattle.std.proofs.lemmas.Grind.{common_steps}
use Rattle.token_grammar.specs.steps.Parsers.{view, loop, repeated}
use Rattle.token_grammar.proofs.Turns.{one_more, no_more}
use Rattle.st_statements.specs.steps.Parse.{nested, body, item, sees_statement}
use Rattle.st_statements.proofs.statements.Block.body.Goals as goal

pub loop-turn-init : goal.loop-turn-init
unfolding body repeated
loop-turn-init g c = first_of (search rules, grind (arith, common_steps))

pub returns-then-not-sees_statement : goal.returns-then-not-sees_statement
unfolding loop
returns-then-not-sees_statement g c =
    let e = one_more (λ n. loop sees_statement (item (nested c.args.self.now.nest)) n
    c.loop-turn.found (view c.loop-turn.cursor)) _ c.loop-turn._turn c.loop-turn-test.true
    c.loop-turn.invariant in
    first_of (search rules, grind (arith, common_steps))

pub returns-in_err-item : goal.returns-in_err-item
unfolding loop
returns-in_err-item g c =
    let e = one_more (λ n. loop sees_statement (item (nested c.args.self.now.nest)) n
    c.loop-turn.found (view c.loop-turn.cursor)) _ c.loop-turn._turn c.loop-turn-test.true
    c.loop-turn.invariant in
    first_of (search rules, grind (arith, common_steps))

pub loop-turn-preserved : goal.loop-turn-preserved
unfolding loop
loop-turn-preserved g c =
    let e = one_more (λ n. loop sees_statement (item (nested c.args.self.now.nest)) n
    c.loop-turn.found (view c.loop-turn.cursor)) _ c.loop-turn._turn c.loop-turn-test.true
    c.loop-turn.invariant in
    first_of (search rules, grind (arith, common_steps))

pub returns : goal.returns
unfolding loop
returns g c =
    let e = no_more (λ n. loop sees_statement (item (nested c.args.self.now.nest)) n
    c.loop-turn.found (view c.loop-turn.cursor)) _ c.loop-turn._turn c.loop-turn-test.false
    c.loop-turn.invariant in
    first_of (search rules, grind (arith, common_steps))
