use Rattle.std.proofs.Common.{◌≡◌, ◌-◌}
use Rattle.token_grammar.specs.declared.token.TokenKind.TheVariants as k
use Rattle.token_grammar.specs.steps.Parsers.{view, loop, sees_in}
use Rattle.st_declarations.specs.steps.Parse.{commas, more_behind}
use Rattle.st_declarations.proofs.lists.commas.Given as goal

abbrev pub invariant-loop-turn : goal.invariant-loop-turn
invariant-loop-turn g l =
    commas (g.R.Reader.parser l.fn.reader) (view l.fn.cursor)
    ≡ loop (sees_in k.Comma) (more_behind (g.R.Reader.parser l.fn.reader))
    (l._turn-end - l._turn) l.found (view l.cursor)
