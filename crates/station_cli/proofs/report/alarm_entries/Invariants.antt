-- The entries so far are those of the alarms so far.
use Rattle.std.proofs.Common.{ℕ, List, take}
use Rattle.std.specs.List.{AllByRecursion}
use Rattle.station_cli.specs.steps.Parsing.{IsAnalysable}
use Rattle.station_cli.specs.steps.Lines.{AreEntriesOf, IsInBody}
use Rattle.station_cli.proofs.report.alarm_entries.Given as goal

abbrev pub invariant-loop-hit : goal.invariant-loop-hit
invariant-loop-hit l = (text : List ℕ) (is : IsAnalysable text l.tree) → AllByRecursion (λ hit. IsInBody is.unit hit.site.node) l.hits → AreEntriesOf l.name text l.tree is.unit (take l.hit-index l.hits) l.entries
