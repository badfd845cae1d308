use Rattle.std.proofs.Common.{◌≡◌, ◌-◌}
use Rattle.token_grammar.specs.declared.token.TokenKind.TheVariants as k
use Rattle.token_grammar.specs.steps.Parsers.{view, loop, sees_in}
use Rattle.st_statements.specs.steps.Parse.{some_arguments, more_arguments}
use Rattle.st_statements.proofs.simple.some_arguments.Given as goal

abbrev pub invariant-loop-turn : goal.invariant-loop-turn
invariant-loop-turn l = some_arguments (view l.fn.cursor) ≡ loop (sees_in k.Comma) more_arguments
    (l._turn-end - l._turn) l.found (view l.cursor)
