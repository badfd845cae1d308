use Rattle.station_cli.proofs.OneReport.{one_report}
use Rattle.station_cli.proofs.law.one_report.Goals as goal

pub returns : goal.returns
returns c =
    one_report c.text_laws.ensures.one_tree c.text_laws.ensures.one_fault c.text_laws.ensures.not_both
    c.form_laws.ensures.one
