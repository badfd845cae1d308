use Rattle.std.proofs.Common.{◌≡◌, drop}
use Rattle.toml.specs.View.{items_view}
use Rattle.station_settings.specs.Schema.{each, caller}
use Rattle.station_settings.proofs.Lists.{behind}
use Rattle.station_settings.proofs.callers.all_callers.Given as goal

abbrev pub invariant-loop-table : goal.invariant-loop-table
invariant-loop-table l = behind l.callers (each caller (items_view (drop l.table-index l.table-items))) ≡ each caller (items_view l.tables.items)
