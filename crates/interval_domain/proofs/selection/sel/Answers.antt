use Rattle.std.proofs.Common.{◌∙◌}
use Rattle.interval_domain.specs.Selection.{chosen, sel_row}
use Rattle.interval_domain.specs.Laws.{of_three}
use Rattle.interval_domain.proofs.Choices.{held-sel, larger-sel}
use Rattle.interval_domain.proofs.Shapes.{sound-plain, grows-three}
use Rattle.interval_domain.proofs.selection.sel.Goals as goal

pub returns-clause-raw : goal.returns-clause-raw
returns-clause-raw c = c.plain.ensures.raw ∙ c.chosen.ensures

pub returns-clause-result : goal.returns-clause-result
returns-clause-result c = c.plain.ensures.result ∙ c.chosen.ensures

pub returns-clause-sound : goal.returns-clause-sound
returns-clause-sound c =
    sound-plain (of_three chosen c.args.g c.args.in0 c.args.in1) (sel_row c.args.g c.args.in0 c.args.in1) _ _
    (returns-clause-raw c) (returns-clause-result c) (held-sel c.args.g c.args.in0 c.args.in1)

pub returns-clause-monotone : goal.returns-clause-monotone
returns-clause-monotone c =
    grows-three sel_row c.args.g c.args.in0 c.args.in1 _ _ (returns-clause-raw c) (returns-clause-result c)
    (larger-sel c.args.g c.args.in0 c.args.in1)
