use Rattle.std.proofs.Common.{rules, arith}
use Rattle.std.proofs.lemmas.Grind.{common_steps}
use Rattle.token_grammar.specs.steps.Parsers.{view, loop, repeated, sees_in}
use Rattle.token_grammar.proofs.Turns.{one_more, no_more}
use Rattle.token_grammar.specs.declared.token.TokenKind.TheVariants as k
use Rattle.st_declarations.specs.steps.Parse.{commas, more, more_behind}
use Rattle.st_declarations.proofs.lists.commas.Goals as goal

pub loop-turn-init : goal.loop-turn-init
unfolding commas repeated more
loop-turn-init g c = first_of (search rules, grind (arith, common_steps))

pub returns-then-not-sees : goal.returns-then-not-sees
unfolding loop
returns-then-not-sees g c =
    let e = one_more
    (λ n. loop (sees_in k.Comma) (more_behind (g.R.Reader.parser c.args.reader.now)) n
    c.loop-turn.found (view c.loop-turn.cursor)) _
    c.loop-turn._turn c.loop-turn-test.true c.loop-turn.invariant in
    first_of (search rules, grind (arith, common_steps))

pub returns-in_err-more_behind : goal.returns-in_err-more_behind
unfolding loop
returns-in_err-more_behind g c =
    let e = one_more
    (λ n. loop (sees_in k.Comma) (more_behind (g.R.Reader.parser c.args.reader.now)) n
    c.loop-turn.found (view c.loop-turn.cursor)) _
    c.loop-turn._turn c.loop-turn-test.true c.loop-turn.invariant in
    first_of (search rules, grind (arith, common_steps))

pub loop-turn-preserved : goal.loop-turn-preserved
unfolding loop
loop-turn-preserved g c =
    let e = one_more
    (λ n. loop (sees_in k.Comma) (more_behind (g.R.Reader.parser c.args.reader.now)) n
    c.loop-turn.found (view c.loop-turn.cursor)) _
    c.loop-turn._turn c.loop-turn-test.true c.loop-turn.invariant in
    first_of (search rules, grind (arith, common_steps))

pub returns : goal.returns
unfolding loop
returns g c =
    let e = no_more
    (λ n. loop (sees_in k.Comma) (more_behind (g.R.Reader.parser c.args.reader.now)) n
    c.loop-turn.found (view c.loop-turn.cursor)) _
    c.loop-turn._turn c.loop-turn-test.false c.loop-turn.invariant in
    first_of (search rules, grind (arith, common_steps))
