-- What the code makes of each alarm and each cell: a step on the way from the code to the
-- definition of a report; its source is the code.
use Rattle.std.specs.Prelude.{◌≡◌, ℕ, List, [], ◌∷◌, map}
use Rattle.std.specs.List.{AllZip, Contains}
use Rattle.interval_domain.specs.Interval.{Interval, Empty, Span}
use Rattle.st_tree.specs.declared.node.NodeNo.{NodeNo}
use Rattle.st_tree.specs.declared.hit.Hit.{Hit}
use Rattle.first_form.specs.declared.tree.Stmt.{Stmt}
use Rattle.first_form.specs.declared.tree.Unit.{Unit as SourceUnit}
use Rattle.first_form.specs.declared.tree.SourceTree.{SourceTree}
use Rattle.st_tree.specs.declared.code.CellInfo.{CellInfo}
use Rattle.first_form.specs.Nodes.{stmt_nodes}
use Rattle.finding_spans.specs.Places.{IsPosition, IsReportedAt}
use Rattle.finding_spans.specs.declared.report.Alarm.{Alarm}
use Rattle.finding_spans.specs.declared.report.Entry.{Entry}
use Rattle.finding_spans.specs.declared.report.RangeLine.{RangeLine}
use Rattle.station_cli.specs.Report.{IsUnder}

-- ---- alarms

-- a statement of the unit's body holds the node
pub record IsInBody (unit : SourceUnit) (node : NodeNo) : Type 0 where
  pub stmt : Stmt
  pub there : Contains unit.body stmt
  pub holds : Contains (map (λ n. n.number) (stmt_nodes stmt)) node

-- the alarm that the analysis tells
pub record IsAlarmOf (hit : Hit) (alarm : Alarm) : Type 0 where
  pub kind_is : alarm.kind ≡ hit.kind
  pub site_is : alarm.site ≡ hit.site
  pub low_is : alarm.low ≡ hit.low
  pub high_is : alarm.high ≡ hit.high

-- the same under its unit and subject, with its place
pub record IsEntryOf (name text : List ℕ) (tree : SourceTree) (unit : SourceUnit) (hit : Hit)
    (entry : Entry Alarm) : Type 0 where
  pub alarm : IsAlarmOf hit entry.item
  pub under : IsUnder unit entry.item
  pub at : ℕ
  pub reported : IsReportedAt tree hit.site.node at
  pub position : IsPosition text at entry.line entry.column
  pub file : entry.file ≡ name

-- one each, in their order
abbrev pub AreEntriesOf : (name text : List ℕ) → SourceTree → SourceUnit → List Hit
    → List (Entry Alarm) → Type 0
AreEntriesOf name text tree unit hits entries = AllZip (IsEntryOf name text tree unit) hits entries

-- ---- ranges

-- the line of a cell; with no range it is that of the start value
abbrev pub range_line : CellInfo → Interval → RangeLine
range_line cell Empty = record { name = cell.path; low = cell.start; high = cell.start }
range_line cell (Span low high) = record { name = cell.path; low = low; high = high }

abbrev pub lines_of : List CellInfo → List Interval → List RangeLine
lines_of [] ranges = []
lines_of (cell ∷ cells) [] = []
lines_of (cell ∷ cells) (range ∷ ranges) = range_line cell range ∷ lines_of cells ranges
