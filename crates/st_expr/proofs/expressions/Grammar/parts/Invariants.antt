use Rattle.std.proofs.Common.{◌≡◌, ◌-◌}
use Rattle.token_grammar.specs.steps.Parsers.{view, loop}
use Rattle.st_expr.specs.steps.Parse.{nested, parts, more_parts, sees_part}
use Rattle.st_expr.proofs.expressions.Grammar.parts.Given as goal

abbrev pub invariant-loop-turn : goal.invariant-loop-turn
invariant-loop-turn g l = parts (nested l.self.nest) (view l.fn.cursor) ≡ loop sees_part
    (more_parts (nested l.self.nest)) (l._turn-end - l._turn) l.found (view l.cursor)
