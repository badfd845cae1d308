use Rattle.std.proofs.Common.{◌≡◌, ◌-◌}
use Rattle.token_grammar.specs.steps.Parsers.{view, loop}
use Rattle.st_units.specs.steps.Parse.{parts, file_part, sees_file_part}
use Rattle.st_declarations.specs.steps.Parse.{more}
use Rattle.st_units.proofs.units.parts.Given as goal

abbrev pub invariant-loop-turn : goal.invariant-loop-turn
invariant-loop-turn l = parts (view l.fn.cursor)
    ≡ loop sees_file_part (more file_part) (l._turn-end - l._turn) l.found (view l.cursor)
