use Rattle.station_cli.proofs.Says.{reports_hold, free_holds}
use Rattle.station_cli.proofs.law.reports_hold.Goals as goal

pub returns-clause-all : goal.returns-clause-all
returns-clause-all c =
    reports_hold c.headline.ensures.covered c.headline.ensures.steady c.text_laws.ensures.one_tree
    c.form_laws.ensures.one c.text_laws.ensures.not_both

pub returns-clause-free : goal.returns-clause-free
returns-clause-free c =
    free_holds c.headline.ensures.covered c.headline.ensures.steady c.text_laws.ensures.one_tree
    c.form_laws.ensures.one c.text_laws.ensures.not_both
