-- The report on a file that its text defines. Source: this profile. The code makes it step by step.
use Rattle.std.specs.Prelude.{◌≡◌, ◌⊎◌, ℕ, ◌<◌, List, [], ◌∷◌, map, Some, slice_get, ℤ}
use Rattle.std.specs.List.{Contains}
use Rattle.iec_tables.specs.declared.kind.Kind.{Kind}
use Rattle.iec_tables.specs.Kinds as kinds
use Rattle.interval_domain.specs.Interval.{Interval, Span, IsWithin}
use Rattle.interval_domain.specs.Grid.{IsGrid}
use Rattle.st_tree.specs.declared.node.Site.{Site}
use Rattle.iec_tables.specs.declared.fault.FaultCode.{FaultCode}
use Rattle.st_tree.specs.declared.file.SourceTree.{SourceTree as SourceFile}
use Rattle.st_tree.specs.declared.plan.PlanRefusal.TheVariants.{NotBuilt}
use Rattle.st_units.specs.SourceTrees.{IsTreeOf, IsFaultOf}
use Rattle.first_form.specs.declared.tree.Stmt.{Stmt}
use Rattle.first_form.specs.declared.tree.Stmt.TheVariants.{Assign}
use Rattle.first_form.specs.declared.tree.Unit.{Unit as SourceUnit}
use Rattle.first_form.specs.declared.tree.SourceTree.{SourceTree}
use Rattle.st_tree.specs.declared.code.TaskCode.{TaskCode}
use Rattle.st_tree.specs.declared.code.Component.{Component}
use Rattle.first_form.specs.Nodes.{stmt_nodes}
use Rattle.first_form.specs.FirstForm.{IsFirstForm}
use Rattle.task_config.specs.Plan.{IsComponent}
use Rattle.cycle_analysis.specs.Pass.{Entry as Told, Alarm as Alarmed}
use Rattle.cycle_analysis.specs.Table.{Part, part_at, pass_of, own_range, IsSolution}
use Rattle.finding_spans.specs.Places.{IsPosition, IsReportedAt}
use Rattle.finding_spans.specs.declared.report.Alarm.{Alarm}
use Rattle.finding_spans.specs.declared.report.Entry.{Entry}
use Rattle.finding_spans.specs.declared.report.RangeLine.{RangeLine}
use Rattle.finding_spans.specs.declared.report.Report.{Report}
use Rattle.finding_spans.specs.declared.report.Verdict.TheVariants as verdict
use Rattle.station_cli.specs.Reports.{IsCounted, IsOfAnalysis}

-- ---- alarms

-- the pass tells an alarm of that kind at that node
abbrev pub IsTold : List Told → Kind → Site → Type 0
IsTold log kind site = (i : Interval) × Contains log (Alarmed kind site i)

-- the hull of the ranges that a pass tells of that kind at that node
pub record IsHull (log : List Told) (kind : Kind) (site : Site) (range : Interval) : Type 0 where
  pub holds : (i : Interval) → Contains log (Alarmed kind site i) → IsWithin i range
  pub least : (j : Interval) → ((i : Interval) → Contains log (Alarmed kind site i) → IsWithin i j)
      → IsWithin range j

-- the first name of the path that a statement assigns
abbrev pub subject : Stmt → List ℕ
subject (Assign node target value) = target.root.name

-- An alarm stands under the unit and the subject of the statement that holds its node.
pub record IsUnder (unit : SourceUnit) (alarm : Alarm) : Type 0 where
  pub stmt : Stmt
  pub there : Contains unit.body stmt
  pub holds : Contains (map (λ node. node.number) (stmt_nodes stmt)) alarm.site.node
  pub unit_is : alarm.unit ≡ unit.name.name
  pub subject_is : alarm.subject ≡ subject stmt

-- an alarm with its place, of what the pass tells
pub record IsAlarm (name text : List ℕ) (tree : SourceTree) (unit : SourceUnit) (log : List Told)
    (entry : Entry Alarm) : Type 0 where
  pub told : IsTold log entry.item.kind entry.item.site
  pub range : IsHull log entry.item.kind entry.item.site (Span entry.item.low entry.item.high)
  pub under : IsUnder unit entry.item
  pub at : ℕ
  pub reported : IsReportedAt tree entry.item.site.node at
  pub position : IsPosition text at entry.line entry.column
  pub file : entry.file ≡ name

-- in one file by node, and at one node by kind
abbrev pub Precedes : Alarm → Alarm → Type 0
Precedes a b =
    (a.site.node.0 < b.site.node.0)
    ⊎ ((a.site.node ≡ b.site.node) × (kinds.code_of a.kind < kinds.code_of b.kind))

abbrev pub AreOrdered : List (Entry Alarm) → Type 0
AreOrdered [] = Unit {0}
AreOrdered (a ∷ []) = Unit {0}
AreOrdered (a ∷ b ∷ es) = Precedes a.item b.item × AreOrdered (b ∷ es)

-- These are the alarms: one a node and kind that the pass tells, and no others.
pub record AreAlarms (name text : List ℕ) (tree : SourceTree) (unit : SourceUnit) (log : List Told)
    (entries : List (Entry Alarm)) : Type 0 where
  pub ordered : AreOrdered entries
  pub each : (e : Entry Alarm) → Contains entries e → IsAlarm name text tree unit log e
  pub all : (kind : Kind) (site : Site) → IsTold log kind site → (e : Entry Alarm)
      × Contains entries e × (e.item.kind ≡ kind) × (e.item.site ≡ site)

-- ---- ranges

-- the lines of the cells, in their order
pub record AreRanges (task : TaskCode) (table : List Part) (lines : List RangeLine) : Type 0 where
  pub names : map (λ line. line.name) lines ≡ map (λ cell. cell.path) task.cells
  pub ranges : (k : ℕ) (line : RangeLine) → slice_get lines k ≡ Some line
      → own_range task (part_at table 0) k ≡ Span line.low line.high

-- ---- the report

-- The report on a tree of a text.
pub record IsReportOf (name text : List ℕ) (tree : SourceTree) (report : Report) : Type 0 where
  pub unit : SourceUnit
  pub component : Component
  pub task : TaskCode
  pub grid : List ℤ
  pub table : List Part
  pub units : tree.units ≡ unit ∷ []
  pub planned : IsComponent unit component
  pub tasks : component.tasks ≡ task ∷ []
  pub grid_is : IsGrid component.literals grid
  pub solved : IsSolution grid component table
  pub alarms : AreAlarms name text tree unit (pass_of task table 0).log report.alarms
  pub ranges : AreRanges task table report.ranges
  pub analysed : IsOfAnalysis report.verdict
  pub counted : IsCounted report
  pub waived : report.waived_count ≡ 0

-- The text is a file of the form whose analysis is built, and this is its tree.
pub record IsFormOf (text : List ℕ) (tree : SourceTree) : Type 0 where
  pub file : SourceFile
  pub parsed : IsTreeOf text file
  pub form : IsFirstForm file tree

-- The report on a text that is analysed: it is a file of the form whose analysis is built.
pub record IsAnalysed (name text : List ℕ) (made : Report) : Type 0 where
  pub tree : SourceTree
  pub spelled : IsFormOf text tree
  pub report : IsReportOf name text tree made

-- The report on a text that is refused, for its first fault.
pub record IsRefusal (name text : List ℕ) (report : Report) : Type 0 where
  pub code : FaultCode
  pub at : ℕ
  pub line : ℕ
  pub column : ℕ
  pub fault : IsFaultOf text code at
  pub position : IsPosition text at line column
  pub verdict_is : report.verdict ≡ verdict.Refused (record {
    file = name;
    line = line;
    column =
        column;
    code = code;
  })
  pub counted : IsCounted report
  pub waived : report.waived_count ≡ 0

-- The report on a text that isn't analysed: it is a file, but none of the form whose analysis is
-- built.
pub record IsUnbuilt (text : List ℕ) (report : Report) : Type 0 where
  pub file : SourceFile
  pub parsed : IsTreeOf text file
  pub other : (tree : SourceTree) → IsFirstForm file tree → ⊥
  pub verdict_is : report.verdict ≡ verdict.NotAnalysed NotBuilt
  pub counted : IsCounted report
  pub waived : report.waived_count ≡ 0

-- The report on a file of that name and text.
abbrev pub IsReport : List ℕ → List ℕ → Report → Type 0
IsReport name text report =
    IsAnalysed name text report ⊎ (IsRefusal name text report ⊎ IsUnbuilt text report)
