use Rattle.std.proofs.Common.{◌≡◌, drop}
use Rattle.toml.specs.View.{items_view}
use Rattle.station_settings.specs.Schema.{each, rule}
use Rattle.station_settings.proofs.Lists.{behind}
use Rattle.station_settings.proofs.disabled.rule_numbers.Given as goal

abbrev pub invariant-loop-code : goal.invariant-loop-code
invariant-loop-code l = behind l.numbers.items (each rule (items_view (drop l.code-index l.code-items))) ≡ each rule (items_view l.codes.items)
