-- The report that is made of a tree is the one that the definitions give.
use Rattle.std.proofs.Common.{◌≡◌, ℕ, ◌+◌, List, [], ◌∷◌, ◌++◌, Some, length, sym, ap, subst}
use Rattle.std.specs.Prelude.{ℤ, flat_map, slice_get}
use Rattle.std.specs.List.{AllByRecursion, IsDistinct}
use Rattle.std.specs.List.Sorted.{IsPermutation}
use Rattle.interval_domain.specs.Grid.{IsGrid}
use Rattle.st_tree.specs.declared.node.Site.{Site}
use Rattle.st_tree.specs.declared.hit.Hit.{Hit}
use Rattle.first_form.specs.declared.tree.Unit.{Unit as SourceUnit}
use Rattle.first_form.specs.declared.tree.SourceTree.{SourceTree}
use Rattle.st_tree.specs.declared.code.TaskCode.{TaskCode}
use Rattle.st_tree.specs.declared.code.Component.{Component}
use Rattle.st_tree.specs.Code.{reading}
use Rattle.first_form.specs.Names.{unit_names}
use Rattle.first_form.specs.Nodes.{section_nodes, stmt_nodes, unit_nodes, CountsFrom, IsNumbered}
use Rattle.st_tree.specs.Writes.{WritesCells}
use Rattle.finding_spans.specs.declared.report.Alarm.{Alarm}
use Rattle.finding_spans.specs.declared.report.Entry.{Entry}
use Rattle.finding_spans.specs.declared.report.RangeLine.{RangeLine}
use Rattle.finding_spans.specs.declared.report.Report.{Report}
use Rattle.finding_spans.specs.declared.report.Verdict.TheVariants as verdict
use Rattle.task_config.specs.Plan.{IsComponent, IsTask}
use Rattle.first_form.proofs.Parts.{counts_left, counts_right}
use Rattle.task_config.proofs.Apart.{one_node, operators_apart}
use Rattle.task_config.proofs.Held.{IsHeld, operators_held}
use Rattle.cycle_analysis.specs.declared.solution.Solution.{Solution}
use Rattle.cycle_analysis.specs.Pass.{Reached}
use Rattle.cycle_analysis.specs.Table.{Part, part_at, others, pass_of, IsSolution}
use Rattle.cycle_analysis.specs.Solved.{AreInOrder, HasRanges, alarms_of, table_of}
use Rattle.cycle_analysis.proofs.Sites.{told_at, told_apart}
use Rattle.cycle_analysis.proofs.Told.{pass_has_ranges}
use Rattle.cycle_analysis.proofs.Rising.{same_node}
use Rattle.station_cli.specs.Report.{IsReportOf}
use Rattle.station_cli.specs.Reports.{IsCounted, IsOfAnalysis}
use Rattle.station_cli.specs.steps.Parsing.{IsAnalysable}
use Rattle.station_cli.specs.steps.Lines.{AreEntriesOf, IsInBody, lines_of}
use Rattle.station_cli.proofs.Planned.{body_operators}
use Rattle.task_config.proofs.Lists.{all_weaker}
use Rattle.station_cli.proofs.Lists.{all_permuted}
use Rattle.station_cli.proofs.Alarms.{are_alarms}
use Rattle.station_cli.proofs.RangeLines.{are_ranges}

-- ---- the alarms of a planned task

body_counts : (tree : SourceTree) (unit : SourceUnit) → tree.units ≡ unit ∷ [] → IsNumbered tree → CountsFrom (2 + length (flat_map section_nodes unit.sections)) (flat_map stmt_nodes unit.body)
body_counts tree unit e n =
    let h : CountsFrom 0 (unit_nodes unit ++ []) = subst (λ (units : List SourceUnit). CountsFrom 0 (flat_map unit_nodes units)) e n in
    counts_right 2 (flat_map section_nodes unit.sections) (flat_map stmt_nodes unit.body) (counts_left 0 (unit_nodes unit) [] h).1.1

module _ (unit : SourceUnit) (task : TaskCode) (is : IsTask unit task) (table : List Part) where
  told_held : AllByRecursion (λ (hit : Hit). IsHeld unit.body hit.site) (alarms_of (pass_of task table 0).log)
  told_held =
      told_at (IsHeld unit.body) (record { during = others table 0 }) (reading task.code) [] (Reached (part_at table 0).cycle.own (part_at table 0).cycle.views)
      (subst (λ (sites : List Site). AllByRecursion (IsHeld unit.body) sites) (sym (body_operators (unit_names unit) unit.body (reading task.code) (sym is.code))) (operators_held unit.body))

  told_distinct : (n : ℕ) → CountsFrom n (flat_map stmt_nodes unit.body) → IsDistinct same_node (alarms_of (pass_of task table 0).log)
  told_distinct n c =
      told_apart one_node (record { during = others table 0 }) (reading task.code) [] (Reached (part_at table 0).cycle.own (part_at table 0).cycle.views)
      (subst (λ (sites : List Site). IsDistinct one_node sites) (sym (body_operators (unit_names unit) unit.body (reading task.code) (sym is.code))) (operators_apart n unit.body c))

-- ---- the report

-- what the parts of the analysis answer of a component
pub record IsAnswered (unit : SourceUnit) (component : Component) (grid : List ℤ) (s : Solution) : Type 0 where
  pub planned : IsComponent unit component
  pub writes : WritesCells component
  pub grid_is : IsGrid component.literals grid
  pub solution : WritesCells component → IsSolution grid component (table_of s ∷ [])
  pub alarms : (task : TaskCode) → slice_get component.tasks 0 ≡ Some task → IsPermutation (alarms_of (pass_of task (table_of s ∷ []) 0).log) s.alarms.items
  pub ordered : AreInOrder s.alarms.items
  pub ranges : (task : TaskCode) → slice_get component.tasks 0 ≡ Some task → HasRanges component task s

-- what a report is made of
pub record IsMadeOf (entries : List (Entry Alarm)) (lines : List RangeLine) (report : Report) : Type 0 where
  pub alarms : report.alarms ≡ entries
  pub ranges : report.ranges ≡ lines
  pub counted : IsCounted report
  pub analysed : IsOfAnalysis report.verdict
  pub waived : report.waived_count ≡ 0

pub is_report : (name text : List ℕ) (tree : SourceTree) (component : Component) (grid : List ℤ) (s : Solution) (entries : List (Entry Alarm)) (lines : List RangeLine) (report : Report) (is : IsAnalysable text tree)
    → IsAnswered is.unit component grid s
    → (AllByRecursion (λ (hit : Hit). IsInBody is.unit hit.site.node) s.alarms.items → AreEntriesOf name text tree is.unit s.alarms.items entries)
    → lines ≡ lines_of component.shared s.ranges.shared.items ++ flat_map (λ (task : TaskCode). lines_of task.cells s.ranges.own.items) component.tasks
    → IsMadeOf entries lines report → IsReportOf name text tree report
is_report name text tree component grid s entries lines report is a made lines_are r =
    let task = a.planned.task in
    let table = table_of s ∷ [] in
    let log = (pass_of task table 0).log in
    let first : slice_get component.tasks 0 ≡ Some task = ap (λ (tasks : List TaskCode). slice_get tasks 0) a.planned.tasks in
    let sorted = a.alarms task first in
    let held = all_permuted (λ (hit : Hit). IsHeld is.unit.body hit.site) (alarms_of log) s.alarms.items sorted (told_held is.unit task a.planned.is_task table) in
    let in_body = all_weaker (λ (hit : Hit). IsHeld is.unit.body hit.site) (λ (hit : Hit). IsInBody is.unit hit.site.node) (λ hit h. record { stmt = h.stmt; there = h.there; holds = h.holds }) s.alarms.items held in
    let files = all_weaker (λ (hit : Hit). IsHeld is.unit.body hit.site) (λ (hit : Hit). hit.site.file ≡ 0) (λ hit h. h.file) s.alarms.items held in
    let apart = told_distinct is.unit task a.planned.is_task table _ (body_counts tree is.unit is.units is.numbered) in
    let ranges = pass_has_ranges (record { during = others table 0 }) (reading task.code) [] (Reached (part_at table 0).cycle.own (part_at table 0).cycle.views) in
    record {
      unit = is.unit;
      component = component;
      task = task;
      grid = grid;
      table = table;
      units = is.units;
      planned = a.planned;
      tasks = a.planned.tasks;
      grid_is = a.grid_is;
      solved = a.solution a.writes;
      alarms = rw r.alarms (are_alarms log ranges apart name text tree is.unit s.alarms.items entries sorted (made in_body) a.ordered files);
      ranges = rw r.ranges (are_ranges component task s lines a.planned.tasks a.planned.shared (a.ranges task first) lines_are);
      analysed = r.analysed;
      counted = r.counted;
      waived = r.waived;
    }
