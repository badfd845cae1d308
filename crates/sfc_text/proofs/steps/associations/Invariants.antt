use Rattle.std.proofs.Common.{◌≡◌, ◌-◌}
use Rattle.token_grammar.specs.declared.token.TokenKind.TheVariants as k
use Rattle.token_grammar.specs.steps.Parsers.{view, loop, sees_in}
use Rattle.sfc_text.specs.steps.Parse.{associations, more_associations}
use Rattle.sfc_text.proofs.steps.associations.Given as goal

abbrev pub invariant-loop-turn : goal.invariant-loop-turn
invariant-loop-turn l =
    associations (view l.fn.cursor) ≡ loop (sees_in k.Name) more_associations (l._turn-end - l._turn) l.found (view l.cursor)
