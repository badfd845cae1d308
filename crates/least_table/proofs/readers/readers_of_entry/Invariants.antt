use Rattle.std.proofs.Common.{◌≡◌}
use Rattle.std.specs.List.{filter, range_with_len}
use Rattle.least_table.proofs.readers.readers_of_entry.Given as goal

abbrev pub invariant-loop-unit : goal.invariant-loop-unit
invariant-loop-unit g l =
    l.units.items ≡ filter (λ unit. (g.S.System.meaning l.sys).reads unit l.entry) (range_with_len 0 l.unit)
