use Rattle.finding_spans.proofs.Holders.{among_numbers}
use Rattle.finding_spans.proofs.span.place.Goals as goal

pub returns-in-Some-clause-reported : goal.returns-in-Some-clause-reported
returns-in-Some-clause-reported c = λ numbered h. (c.in-Some.found, c.in-Some.ensures (among_numbers c.args.node c.args.tree.now numbered h), c.span_of.ensures.start)

pub returns-in-None-clause-reported : goal.returns-in-None-clause-reported
returns-in-None-clause-reported c = λ numbered h. absurd (c.in-None.ensures (among_numbers c.args.node c.args.tree.now numbered h))
