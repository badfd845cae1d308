-- What a report that was put says of the runs of the program: the promise of this product. The code
-- has no part for it; it follows from the report that the text defines and from the theorem over
-- all runs of the analysis. Source: this profile.
use Rattle.std.specs.Prelude.{◌≡◌, ℕ, ◌++◌, List, [], ◌∷◌, Some, codes, take, slice_get, ℤ}
use Rattle.std.specs.List.{Contains}
use Rattle.iec_tables.specs.declared.kind.Kind.{Kind}
use Rattle.interval_domain.specs.Interval.{Span, Holds}
use Rattle.interval_domain.specs.Operators.{kept}
use Rattle.st_tree.specs.declared.node.Site.{Site}
use Rattle.first_form.specs.declared.tree.Unit.{Unit as SourceUnit}
use Rattle.first_form.specs.declared.tree.SourceTree.{SourceTree}
use Rattle.st_tree.specs.declared.code.CellInfo.{CellInfo}
use Rattle.st_tree.specs.declared.code.TaskCode.{TaskCode}
use Rattle.st_tree.specs.declared.code.Component.{Component}
use Rattle.task_config.specs.Plan.{IsComponent}
use Rattle.task_meaning.specs.Meaning.{State, TaskState, Numbers, Move, Outcome, Continues, Faulty, start, run}
use Rattle.cycle_analysis.specs.Steady.{NoneWaits}
use Rattle.finding_spans.specs.declared.report.Alarm.{Alarm}
use Rattle.finding_spans.specs.declared.report.Entry.{Entry}
use Rattle.finding_spans.specs.declared.report.RangeLine.{RangeLine}
use Rattle.finding_spans.specs.declared.report.Report.{Report}
use Rattle.finding_spans.specs.declared.report.Verdict.TheVariants.{Free}
use Rattle.station_ports.specs.Views.{PortView}
use Rattle.station_ports.specs.Calls.{IsContent}
use Rattle.report_text.specs.Text.{text_of}
use Rattle.station_cli.specs.Words.{check, command_of}
use Rattle.station_cli.specs.Report.{IsReport, IsFormOf}
use Rattle.station_cli.specs.Run.{World, max_file}
use Rattle.station_cli.specs.Causes.{IsReportedAs}
use Rattle.station_cli.specs.declared.status.Status.TheVariants.{Clean, Open}

-- ---- the program of a text, and what a report says of a run

-- A component that a text defines: that of the one program of the file that the text is. (They
-- differ in the order and number of their literals and in how their code lies in memory.)
pub record IsProgram (text : List ℕ) (component : Component) : Type 0 where
  pub tree : SourceTree
  pub unit : SourceUnit
  pub spelled : IsFormOf text tree
  pub units : tree.units ≡ unit ∷ []
  pub planned : IsComponent unit component

-- the line of that path has the number in its range
abbrev pub InLine : List RangeLine → List ℕ → ℤ → Type 0
InLine lines path v = (line : RangeLine) × Contains lines line × (line.name ≡ path)
    × Holds (Span line.low line.high) v

-- Each number that a variable holds lies in the range of the variable's line.
abbrev pub InLines : Component → List RangeLine → State → Type 0
InLines component lines state =
    (me : ℕ) (task : TaskCode) (s : TaskState) (k : ℕ) (info : CellInfo) (cell : Numbers) (v : ℤ) →
    slice_get component.tasks me ≡ Some task → slice_get state.tasks me ≡ Some s →
    slice_get task.cells k ≡ Some info → slice_get s.own k ≡ Some cell → Contains cell v
    → InLine lines info.path v

-- There is an alarm of that kind at that node, with the value, its size kept in the limit of
-- bounds, in its range.
abbrev pub AtAlarm : List (Entry Alarm) → Kind → Site → ℤ → Type 0
AtAlarm alarms kind site value =
    (e : Entry Alarm) × Contains alarms e × (e.item.kind ≡ kind) × (e.item.site ≡ site)
    × Holds (Span e.item.low e.item.high) (kept value)

-- A run has not faulted, or its first fault is at an alarm; up to there each variable stays in its
-- line.
abbrev pub IsForetold : Component → Report → Outcome → Type 0
IsForetold component made (Continues state) = InLines component made.ranges state
IsForetold component made (Faulty state me kind site value) =
    InLines component made.ranges state × AtAlarm made.alarms kind site value

-- A run has not faulted, and each variable stays in its line.
abbrev pub IsFaultless : Component → Report → Outcome → Type 0
IsFaultless component made (Continues state) = InLines component made.ranges state
IsFaultless component made (Faulty state me kind site value) = ⊥

-- In each state of each run of the program each task has something that it can do, so that no step
-- is missing from a run.
abbrev pub NeverWaits : List ℕ → Type 0
NeverWaits text =
    (component : Component) → IsProgram text component →
    (moves : List Move) (state : State) → run component moves (start component) ≡ Continues state
    → NoneWaits component state

-- ---- what was put

-- These bytes were put, and they begin so.
pub record Says (old new : PortView) (before bytes words : List ℕ) (count : ℕ) : Type 0 where
  pub old_bytes : old.sent ≡ Some before
  pub new_bytes : new.sent ≡ Some (before ++ bytes)
  pub begins : take count bytes ≡ words

-- The words name a file, the bytes are those of the report on its text, or the first of them, and
-- the text defines a program.
pub record IsOfReport (words : List (List ℕ)) (old : World) (bytes : List ℕ) : Type 0 where
  pub name : List ℕ
  pub text : List ℕ
  pub made : Report
  pub program : Component
  pub asked : command_of words ≡ Some (check name)
  pub content : IsContent old.files name max_file text
  pub report : IsReport name text made
  pub count : ℕ
  pub bytes_are : bytes ≡ take count (text_of made)
  pub defined : IsProgram text program

-- No run of the program that the text spells faults, however many steps it takes and whichever task
-- takes each, and each variable stays in its printed range.
pub record IsSafe (words : List (List ℕ)) (old : World) (bytes : List ℕ) : Type 0 where
  pub of_report : IsOfReport words old bytes
  pub free : of_report.made.verdict ≡ Free
  pub faultless : (component : Component) → IsProgram of_report.text component → (moves : List Move)
      → IsFaultless component of_report.made (run component moves (start component))
  pub live : NeverWaits of_report.text

-- Wherever the bytes that were put say FREE, also in a report that was cut short, the program is
-- safe.
abbrev pub FreeIsSafe : List (List ℕ) → World → PortView → PortView → Type 0
FreeIsSafe words old old_out new_out =
    (before bytes : List ℕ) → Says old_out new_out before bytes (codes "VERDICT FREE") 12
    → IsSafe words old bytes

-- Each fault of a run of the program that the text spells is at an alarm of the report, with its
-- value in the alarm's range, and each variable stays in its printed range up to there.
pub record IsCovered (words : List (List ℕ)) (old : World) (bytes : List ℕ) : Type 0 where
  pub of_report : IsOfReport words old bytes
  pub foretold : (component : Component) → IsProgram of_report.text component → (moves : List Move)
      → IsForetold component of_report.made (run component moves (start component))
  pub live : NeverWaits of_report.text

-- Wherever the bytes that were put say ALARMS, the report covers each run.
abbrev pub AlarmsCover : List (List ℕ) → World → PortView → PortView → Type 0
AlarmsCover words old old_out new_out =
    (before bytes : List ℕ) → Says old_out new_out before bytes (codes "VERDICT ALARMS") 14
    → IsCovered words old bytes

-- ---- what was answered

-- The words name a file whose report is FREE, and no run of the program that its text spells
-- faults.
pub record IsReportedSafe (words : List (List ℕ)) (old : World) : Type 0 where
  pub reported : IsReportedAs words old Clean
  pub faultless : (component : Component) → IsProgram reported.text component → (moves : List Move)
      → IsFaultless component reported.made (run component moves (start component))
  pub live : NeverWaits reported.text

-- The words name a file whose report has alarms, and each fault of a run of the program that its
-- text spells is at one of them.
pub record IsReportedCovered (words : List (List ℕ)) (old : World) : Type 0 where
  pub reported : IsReportedAs words old Open
  pub foretold : (component : Component) → IsProgram reported.text component → (moves : List Move)
      → IsForetold component reported.made (run component moves (start component))
  pub live : NeverWaits reported.text

-- ---- what the definitions say alone

-- The report that is defined for a text holds of each run of each program that the text spells.
abbrev pub ReportsHold : Type 0
ReportsHold =
    (name text : List ℕ) (made : Report) → IsReport name text made →
    (component : Component) → IsProgram text component → (moves : List Move)
    → IsForetold component made (run component moves (start component))

-- Where the verdict of the defined report is FREE, no run faults, and no task waits.
abbrev pub FreeHolds : Type 0
FreeHolds =
    (name text : List ℕ) (made : Report) → IsReport name text made → made.verdict ≡ Free →
    ((component : Component) → IsProgram text component → (moves : List Move)
    → IsFaultless component made (run component moves (start component)))
    × NeverWaits text
