use Rattle.std.proofs.Common.{◌≡◌, ◌-◌}
use Rattle.token_grammar.specs.steps.Parsers.{view, loop}
use Rattle.st_declarations.specs.steps.Parse.{sections, section, more, sees_section}
use Rattle.st_declarations.proofs.declarations.sections.Given as goal

abbrev pub invariant-loop-turn : goal.invariant-loop-turn
invariant-loop-turn l = sections (view l.fn.cursor)
    ≡ loop sees_section (more section) (l._turn-end - l._turn) l.found (view l.cursor)
