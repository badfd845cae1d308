use Rattle.std.proofs.Common.{◌≡◌, ◌-◌}
use Rattle.token_grammar.specs.declared.token.TokenKind.TheVariants as k
use Rattle.token_grammar.specs.steps.Parsers.{view, loop, sees_in}
use Rattle.st_statements.specs.steps.Parse.{label_list, more_labels}
use Rattle.st_statements.proofs.labels.label_list.Given as goal

abbrev pub invariant-loop-turn : goal.invariant-loop-turn
invariant-loop-turn l = label_list l.fn.first (view l.fn.cursor) ≡ loop (sees_in k.Comma)
    more_labels (l._turn-end - l._turn) l.found (view l.cursor)
