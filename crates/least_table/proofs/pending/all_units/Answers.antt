use Rattle.std.proofs.Common.{◌∙◌, ap, sym, ◌++◌, ◌∷◌, [], List, ℕ}
use Rattle.least_table.proofs.Queues.{range_more}
use Rattle.least_table.proofs.pending.all_units.Goals as goal

pub loop-unit-preserved : goal.loop-unit-preserved
loop-unit-preserved c =
    c.in_ok-push_back.ensures.items
    ∙ ap (λ (q : List ℕ). q ++ c.loop-unit.unit ∷ []) c.loop-unit.invariant
    ∙ sym (range_more c.loop-unit.unit)
