use Rattle.std.proofs.Common.{◌≡◌, ap, arith}
use Rattle.token_grammar.specs.steps.Parsers.{view}
use Rattle.token_grammar.proofs.Turns.{deeper}
use Rattle.st_expr.specs.steps.Parse.{nested}
use Rattle.st_expr.proofs.expressions.+expression_at.Goals as goal

pub returns-then-nest-eq0 : goal.returns-then-nest-eq0
unfolding nested
returns-then-nest-eq0 t c _ =
    let none : c.args.nest ≡ 0 = omega arith in ap (λ n. nested n (view c.args.cursor.now)) none

pub returns : goal.returns
unfolding nested
returns t c =
    rw (deeper (λ n. nested n (view c.args.cursor.now)) c.args.nest (omega arith)) c.whole.ensures
