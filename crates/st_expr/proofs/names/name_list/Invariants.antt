use Rattle.std.proofs.Common.{◌≡◌, ◌-◌}
use Rattle.token_grammar.specs.declared.token.TokenKind.TheVariants as k
use Rattle.token_grammar.specs.steps.Parsers.{view, loop, sees_in}
use Rattle.st_expr.specs.steps.Parse.{names, more_names}
use Rattle.st_expr.proofs.names.name_list.Given as goal

abbrev pub invariant-loop-turn : goal.invariant-loop-turn
invariant-loop-turn l = names (view l.fn.cursor) ≡ loop (sees_in k.Comma) more_names (l._turn-end - l._turn) l.found (view l.cursor)
