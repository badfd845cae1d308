use Rattle.std.proofs.Common.{◌≡◌, drop}
use Rattle.std.specs.List.{list_all}
use Rattle.station_settings.specs.Schema.{differ}
use Rattle.station_settings.proofs.callers.differs_from.Given as goal

abbrev pub invariant-loop-other : goal.invariant-loop-other
invariant-loop-other l = list_all (differ l.one) (drop l.other-index l.others) ≡ list_all (differ l.one) l.others
