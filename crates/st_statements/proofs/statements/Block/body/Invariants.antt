use Rattle.std.proofs.Common.{◌≡◌, ◌-◌}
use Rattle.token_grammar.specs.steps.Parsers.{view, loop}
use Rattle.st_statements.specs.steps.Parse.{nested, body, item, sees_statement}
use Rattle.st_statements.proofs.statements.Block.body.Given as goal

abbrev pub invariant-loop-turn : goal.invariant-loop-turn
invariant-loop-turn g l = body (nested l.self.nest) (view l.fn.cursor) ≡ loop sees_statement
    (item (nested l.self.nest)) (l._turn-end - l._turn) l.found (view l.cursor)
