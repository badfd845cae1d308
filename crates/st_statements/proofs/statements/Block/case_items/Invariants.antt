use Rattle.std.proofs.Common.{◌≡◌, ◌-◌}
use Rattle.token_grammar.specs.steps.Parsers.{view, loop}
use Rattle.st_statements.specs.steps.Held.{branches_of}
use Rattle.st_statements.specs.steps.Parse.{nested, case_items, case_item, sees_case_item}
use Rattle.st_statements.proofs.statements.Block.case_items.Given as goal

abbrev pub invariant-loop-turn : goal.invariant-loop-turn
invariant-loop-turn g l = case_items (nested l.self.nest) l.fn.labels (view l.fn.cursor) ≡ loop
    sees_case_item (case_item (nested l.self.nest)) (l._turn-end - l._turn) (branches_of l.found)
    (view l.cursor)
