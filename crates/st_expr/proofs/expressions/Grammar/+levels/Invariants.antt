use Rattle.std.proofs.Common.{◌≡◌, ◌-◌, ◌+◌, Ok}
use Rattle.token_grammar.specs.steps.Parsers.{view, loop}
use Rattle.st_expr.specs.Trees.{rank_of}
use Rattle.st_expr.specs.steps.Parse.{nested, level, chain, step, operators, sees_operator}
use Rattle.st_expr.proofs.expressions.Grammar.+levels.Given as goal

abbrev pub decreases-level : goal.decreases-level
decreases-level g l = l.level + l.level + 1

abbrev pub decreases-chain : goal.decreases-chain
decreases-chain g l = l.level + l.level + 2

abbrev pub invariant-level-loop-rank : goal.invariant-level-loop-rank
invariant-level-loop-rank g l =
    level (nested l.self.nest) l.rank (view l.fn.cursor) ≡ Ok (l.left, view l.cursor)

abbrev pub invariant-chain-loop-turn : goal.invariant-chain-loop-turn
invariant-chain-loop-turn g l = chain (nested l.self.nest) l.level l.start l.fn.first
    (view l.fn.cursor) ≡ loop (sees_operator (rank_of l.level)) (step (operators (rank_of l.level))
    (level (nested l.self.nest) l.level) l.start) (l._turn-end - l._turn) l.left (view l.cursor)
