use Rattle.std.proofs.Common.{◌≡◌, ◌-◌}
use Rattle.token_grammar.specs.steps.Parsers.{view, loop}
use Rattle.sfc_text.specs.steps.Parse.{chart_parts, more_parts, sees_part}
use Rattle.sfc_text.proofs.chart.chart_parts.Given as goal

abbrev pub invariant-loop-turn : goal.invariant-loop-turn
invariant-loop-turn l =
    chart_parts (view l.fn.cursor) ≡ loop sees_part more_parts (l._turn-end - l._turn) l.found (view l.cursor)
