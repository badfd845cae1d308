use Rattle.std.proofs.Common.{◌≡◌, drop}
use Rattle.station_settings.specs.Schema.{all_differ}
use Rattle.station_settings.proofs.callers.all_differ.Given as goal

abbrev pub invariant-loop-at : goal.invariant-loop-at
invariant-loop-at l = all_differ (drop l.at l.callers) ≡ all_differ l.callers
