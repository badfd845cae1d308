use Rattle.std.proofs.Common.{sym, subst}
use Rattle.toml.specs.View.{table_view}
use Rattle.station_settings.specs.Schema.{IsReading}
use Rattle.station_settings.proofs.Texts.{settings_there}
use Rattle.station_settings.proofs.Lawful.{lawful_reading}
use Rattle.station_settings.proofs.settings.read_settings.Goals as goal

pub returns-in-Ok-table_from_str-clause-reading : goal.returns-in-Ok-table_from_str-clause-reading
returns-in-Ok-table_from_str-clause-reading c =
    let there = settings_there c.args.text.now (table_view c.in-Ok-table_from_str.table) c.in-Ok.ensures.cases.1 (rw c.in-Ok.ensures.cases.0 at c.in-Ok-table_from_str.ensures.ok) in
    subst (λ said. IsReading said c.settings_of.result) (sym there) c.settings_of.ensures

pub returns-in-Ok-table_from_str-clause-lawful : goal.returns-in-Ok-table_from_str-clause-lawful
returns-in-Ok-table_from_str-clause-lawful c = lawful_reading (table_view c.in-Ok-table_from_str.table) c.settings_of.result c.settings_of.ensures
