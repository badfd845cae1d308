use Rattle.std.proofs.Common.{◌≡◌, ◌-◌}
use Rattle.token_grammar.specs.steps.Parsers.{view, loop, sees_in}
use Rattle.st_declarations.specs.steps.Parse.{each, more}
use Rattle.st_declarations.proofs.lists.each.Given as goal

abbrev pub invariant-loop-turn : goal.invariant-loop-turn
invariant-loop-turn g l =
    each l.fn.kind (g.R.Reader.parser l.fn.reader) (view l.fn.cursor)
    ≡ loop (sees_in l.fn.kind) (more (g.R.Reader.parser l.fn.reader))
    (l._turn-end - l._turn) l.found (view l.cursor)
