use Rattle.std.proofs.Common.{ap, ◌∙◌}
use Rattle.first_form.specs.declared.tree.Unit.{Unit as SourceUnit}
use Rattle.station_cli.specs.Report.{subject}
use Rattle.station_cli.proofs.report.unit_and_subject.Goals as goal

pub returns-in-Some : goal.returns-in-Some
returns-in-Some c = λ numbered unit there in_body.
    let h = c.in-Some.ensures numbered unit in_body.stmt there in_body.there in_body.holds in
    (c.bytes.ensures ∙ ap (λ (u : SourceUnit). u.name.name) h.0, c.subject_of.ensures ∙ ap subject h.1)

pub returns-in-None : goal.returns-in-None
returns-in-None c = λ numbered unit there in_body. absurd (c.in-None.ensures numbered unit in_body.stmt there in_body.there in_body.holds)
