use Rattle.std.proofs.Common.{◌≡◌, ◌-◌}
use Rattle.token_grammar.specs.declared.token.TokenKind.TheVariants as k
use Rattle.token_grammar.specs.steps.Parsers.{view, loop, sees_in}
use Rattle.st_statements.specs.steps.Parse.{nested, some_branches, more_branches}
use Rattle.st_statements.proofs.statements.Block.some_branches.Given as goal

abbrev pub invariant-loop-turn : goal.invariant-loop-turn
invariant-loop-turn g l = some_branches (nested l.self.nest) (view l.fn.cursor) ≡ loop
    (sees_in k.Elsif) (more_branches (nested l.self.nest)) (l._turn-end - l._turn) l.found
    (view l.cursor)
