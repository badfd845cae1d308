use Rattle.std.proofs.Common.{◌≡◌, ap, arith}
use Rattle.token_grammar.specs.steps.Parsers.{view}
use Rattle.token_grammar.proofs.Turns.{deeper}
use Rattle.st_declarations.specs.steps.Parse.{init_within}
use Rattle.st_declarations.proofs.initial_values.+init_at.Goals as goal

pub returns-then-nest-eq0 : goal.returns-then-nest-eq0
unfolding init_within
returns-then-nest-eq0 t c _ = let none : c.args.nest ≡ 0 = omega arith in
    ap (λ n. init_within n (view c.args.cursor.now)) none

pub returns : goal.returns
unfolding init_within
returns t c =
    rw (deeper (λ n. init_within n (view c.args.cursor.now)) c.args.nest (omega arith))
    c.any_init.ensures
