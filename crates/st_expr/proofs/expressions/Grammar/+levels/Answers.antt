use Rattle.std.proofs.Common.{rules, arith, suc}
use Rattle.std.proofs.lemmas.Grind.{common_steps}
use Rattle.token_grammar.specs.steps.Parsers.{view, loop, repeated}
use Rattle.token_grammar.proofs.Turns.{one_more, no_more}
use Rattle.st_expr.specs.Trees.{rank_of}
use Rattle.st_expr.specs.steps.Parse.{nested, level, chain, step, operators, sees_operator}
use Rattle.st_expr.proofs.Levels.{refused_above, next_level}
use Rattle.st_expr.proofs.expressions.Grammar.+levels.Goals as goal

pub chain-loop-turn-init : goal.chain-loop-turn-init
unfolding chain repeated
chain-loop-turn-init g t c = first_of (search rules, grind (arith, common_steps))

pub chain-returns-then-not-sees_operator : goal.chain-returns-then-not-sees_operator
unfolding loop step
chain-returns-then-not-sees_operator g t c =
    let e = one_more (λ n. loop (sees_operator (rank_of c.args.level))
    (step (operators (rank_of c.args.level)) (level (nested c.args.self.now.nest) c.args.level)
    c.args.start) n c.loop-turn.left (view c.loop-turn.cursor)) _ c.loop-turn._turn
    c.loop-turn-test.true c.loop-turn.invariant in
    first_of (search rules, grind (arith, common_steps))

pub chain-returns-in_err-operator : goal.chain-returns-in_err-operator
unfolding loop step
chain-returns-in_err-operator g t c =
    let e = one_more (λ n. loop (sees_operator (rank_of c.args.level))
    (step (operators (rank_of c.args.level)) (level (nested c.args.self.now.nest) c.args.level)
    c.args.start) n c.loop-turn.left (view c.loop-turn.cursor)) _ c.loop-turn._turn
    c.loop-turn-test.true c.loop-turn.invariant in
    first_of (search rules, grind (arith, common_steps))

pub chain-returns-in_err-right : goal.chain-returns-in_err-right
unfolding loop step
chain-returns-in_err-right g t c =
    let e = one_more (λ n. loop (sees_operator (rank_of c.args.level))
    (step (operators (rank_of c.args.level)) (level (nested c.args.self.now.nest) c.args.level)
    c.args.start) n c.loop-turn.left (view c.loop-turn.cursor)) _ c.loop-turn._turn
    c.loop-turn-test.true c.loop-turn.invariant in
    first_of (search rules, grind (arith, common_steps))

pub chain-loop-turn-preserved : goal.chain-loop-turn-preserved
unfolding loop step
chain-loop-turn-preserved g t c =
    let e = one_more (λ n. loop (sees_operator (rank_of c.args.level))
    (step (operators (rank_of c.args.level)) (level (nested c.args.self.now.nest) c.args.level)
    c.args.start) n c.loop-turn.left (view c.loop-turn.cursor)) _ c.loop-turn._turn
    c.loop-turn-test.true c.loop-turn.invariant in
    first_of (search rules, grind (arith, common_steps))

pub chain-returns : goal.chain-returns
unfolding loop
chain-returns g t c =
    let e = no_more (λ n. loop (sees_operator (rank_of c.args.level))
    (step (operators (rank_of c.args.level)) (level (nested c.args.self.now.nest) c.args.level)
    c.args.start) n c.loop-turn.left (view c.loop-turn.cursor)) _ c.loop-turn._turn
    c.loop-turn-test.false c.loop-turn.invariant in
    first_of (search rules, grind (arith, common_steps))

pub level-loop-rank-preserved : goal.level-loop-rank-preserved
level-loop-rank-preserved g t c =
    let n = next_level (nested c.args.self.now.nest) (view c.args.cursor.now) c.loop-rank.rank
    c.loop-rank.left (view c.loop-rank.cursor) c.loop-rank.invariant in
    first_of (search rules, grind (arith, common_steps))

pub level-returns-in_err-left : goal.level-returns-in_err-left
unfolding level
level-returns-in_err-left g t c =
    let e = refused_above (nested c.args.self.now.nest) (view c.args.cursor.now) 0 c.args.level in
    first_of (search rules, grind (arith, common_steps))

pub level-returns-in_err-left-2 : goal.level-returns-in_err-left-2
level-returns-in_err-left-2 g t c =
    let n = next_level (nested c.args.self.now.nest) (view c.args.cursor.now) c.loop-rank.rank
    c.loop-rank.left (view c.loop-rank.cursor) c.loop-rank.invariant in
    let e = refused_above (nested c.args.self.now.nest) (view c.args.cursor.now)
    (suc c.loop-rank.rank) c.args.level in
    first_of (search rules, grind (arith, common_steps))
