use Rattle.std.proofs.Common.{◌++◌, ◌∷◌, [], List, ℕ, ◌∙◌, ap, sym}
use Rattle.least_table.proofs.Queues.{filter_yes, filter_no}
use Rattle.least_table.proofs.readers.readers_of_entry.Goals.{then-reads+in_ok-push, else-reads}
use Rattle.least_table.proofs.readers.readers_of_entry.Goals as goal

pub loop-unit-preserved : goal.loop-unit-preserved
loop-unit-preserved g c =
    let reads = λ (unit : ℕ). (g.S.System.meaning c.args.sys.now).reads unit c.args.entry in
    elim c.if-reads.branch [
      | then-reads+in_ok-push w ↦
          rw w.units-is
          (w.in_ok-push.ensures.items
          ∙ ap (λ (units : List ℕ). units ++ c.loop-unit.unit ∷ []) c.loop-unit.invariant
          ∙ sym (filter_yes reads c.loop-unit.unit (sym c.reads.ensures ∙ w.if-reads.true)))
      | else-reads w ↦
          rw w.units-is (c.loop-unit.invariant
          ∙ sym (filter_no reads c.loop-unit.unit (sym c.reads.ensures ∙ w.if-reads.false)))
    ]
