use Rattle.std.proofs.Common.{◌≡◌, ◌-◌}
use Rattle.token_grammar.specs.declared.token.TokenKind.TheVariants as k
use Rattle.token_grammar.specs.steps.Parsers.{view, loop, sees_in}
use Rattle.st_expr.specs.steps.Parse.{nested, arguments, more_arguments}
use Rattle.st_expr.proofs.expressions.Grammar.arguments.Given as goal

abbrev pub invariant-loop-turn : goal.invariant-loop-turn
invariant-loop-turn g l = arguments (nested l.self.nest) (view l.fn.cursor) ≡ loop (sees_in k.Comma)
    (more_arguments (nested l.self.nest)) (l._turn-end - l._turn) l.found (view l.cursor)
