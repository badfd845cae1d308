-- The report that a text defines foretells each run of its program.
use Rattle.std.proofs.Common.{◌≡◌, ℕ, zero, suc, List, [], ◌∷◌, Some, refl, sym, ap, subst, ◌∙◌, arith, inl, inr}
use Rattle.std.specs.Prelude.{ℤ, map, slice_get}
use Rattle.std.specs.List.{Contains}
use Rattle.iec_tables.specs.declared.kind.Kind.{Kind}
use Rattle.interval_domain.specs.Interval.{Interval, Span, Holds, hull}
use Rattle.interval_domain.specs.Operators.{kept}
use Rattle.st_tree.specs.declared.node.Site.{Site}
use Rattle.first_form.specs.declared.tree.Unit.{Unit as SourceUnit}
use Rattle.first_form.specs.declared.tree.SourceTree.{SourceTree}
use Rattle.st_tree.specs.declared.code.CellInfo.{CellInfo}
use Rattle.st_tree.specs.declared.code.TaskCode.{TaskCode}
use Rattle.st_tree.specs.declared.code.Component.{Component}
use Rattle.task_config.specs.Plan.{IsComponent}
use Rattle.task_meaning.specs.Meaning.{State, Move, Outcome, Continues, Faulty, start, run}
use Rattle.cycle_analysis.specs.Pass.{Passed, Entry as Told, Wrote, Alarm as Alarmed, at}
use Rattle.cycle_analysis.specs.Table.{Part, part_at, pass_of, points, own_range, IsAlarmed, InRanges, IsCovered, Theorem}
use Rattle.cycle_analysis.proofs.Lists.{later_in}
use Rattle.cycle_analysis.proofs.OneTable.{AreAlike, alike_back, same_pass, closed_too}
use Rattle.cycle_analysis.proofs.Intervals.{within_holds}
use Rattle.finding_spans.specs.declared.report.Alarm.{Alarm}
use Rattle.finding_spans.specs.declared.report.Entry.{Entry}
use Rattle.finding_spans.specs.declared.report.RangeLine.{RangeLine}
use Rattle.finding_spans.specs.declared.report.Report.{Report}
use Rattle.station_cli.specs.Report.{AreAlarms, AreRanges, IsReportOf}
use Rattle.station_cli.specs.Headline.{InLines, AtAlarm, IsForetold}
use Rattle.station_cli.proofs.OneReport.{alike}

some_is : {A : Type 0} (x y : A) → Some x ≡ Some y → x ≡ y
some_is x y e = cc

only_one : (task t : TaskCode) (me : ℕ) → slice_get (task ∷ []) me ≡ Some t → (me ≡ 0) × (task ≡ t)
only_one task t zero e = (refl, some_is task t e)
only_one task t (suc me) e = absurd cc

-- ---- ranges

lines_hold : (cells : List CellInfo) (lines : List RangeLine) (k : ℕ) (info : CellInfo) → map (λ line. line.name) lines ≡ map (λ cell. cell.path) cells → slice_get cells k ≡ Some info → (line : RangeLine) × (slice_get lines k ≡ Some line) × (line.name ≡ info.path)
lines_hold [] lines k info names there = absurd cc
lines_hold (c ∷ cells) [] k info names there = absurd cc
lines_hold (c ∷ cells) (l ∷ lines) zero info names there =
    let same : l.name ≡ c.path = cc in
    let is : c ≡ info = some_is c info there in
    (l, refl, same ∙ ap (λ (x : CellInfo). x.path) is)
lines_hold (c ∷ cells) (l ∷ lines) (suc k) info names there =
    let tails : map (λ (line : RangeLine). line.name) lines ≡ map (λ (cell : CellInfo). cell.path) cells = cc in
    lines_hold cells lines k info tails there

got_in : {A : Type 0} (xs : List A) (k : ℕ) (x : A) → slice_get xs k ≡ Some x → Contains xs x
got_in [] k x e = absurd cc
got_in (y ∷ ys) zero x e = (zero, omega arith, some_is y x e)
got_in (y ∷ ys) (suc k) x e = later_in y x ys (got_in ys k x e)

in_lines : (component : Component) (task : TaskCode) (table : List Part) (lines : List RangeLine) (state : State) → component.tasks ≡ task ∷ [] → AreRanges task table lines → InRanges component table state → InLines component lines state
in_lines component task table lines state tasks ranges h me t s k info cell v is_task is_state is_info is_cell there =
    let one = only_one task t me (sym (ap (λ (x : List TaskCode). slice_get x me) tasks) ∙ is_task) in
    let l = lines_hold task.cells lines k info ranges.names (ap (λ (x : TaskCode). slice_get x.cells k) one.1 ∙ is_info) in
    let in_range : Holds (own_range t (part_at table me) k) v = h.own me t s k cell v is_task is_state is_cell there in
    let same : own_range t (part_at table me) k ≡ Span l.0.low l.0.high = ap (λ (x : TaskCode). own_range x (part_at table me) k) (sym one.1) ∙ ap (λ (n : ℕ). own_range task (part_at table n) k) one.0 ∙ ranges.ranges k l.0 l.1 in
    (l.0, got_in lines k l.0 l.1, l.2, subst (λ (i : Interval). Holds i v) same in_range)

-- ---- alarms

alarmed_told : (log : List Told) (kind : Kind) (site : Site) (value : ℤ) → IsAlarmed log kind site value → (i : Interval) × Contains log (Alarmed kind site i) × Holds i (kept value)
alarmed_told [] kind site value h = absurd h
alarmed_told (Wrote cell i ∷ log) kind site value h =
    let k = alarmed_told log kind site value h in
    (k.0, later_in (Wrote cell i) (Alarmed kind site k.0) log k.1, k.2)
alarmed_told (Alarmed k n i ∷ log) kind site value (inl h) =
    (i, (zero, omega arith, ap (λ (x : Kind). Alarmed x n i) h.0 ∙ ap (λ (x : Site). Alarmed kind x i) h.1), h.2)
alarmed_told (Alarmed k n i ∷ log) kind site value (inr h) =
    let t = alarmed_told log kind site value h in
    (t.0, later_in (Alarmed k n i) (Alarmed kind site t.0) log t.1, t.2)

at_alarm : (name text : List ℕ) (tree : SourceTree) (unit : SourceUnit) (log : List Told) (alarms : List (Entry Alarm)) (kind : Kind) (site : Site) (value : ℤ) → AreAlarms name text tree unit log alarms → IsAlarmed log kind site value → AtAlarm alarms kind site value
at_alarm name text tree unit log alarms kind site value all h =
    let t = alarmed_told log kind site value h in
    let e = all.all kind site (t.0, t.1) in
    let a = all.each e.0 e.1 in
    let there : Contains log (Alarmed e.0.item.kind e.0.item.site t.0) = subst (λ (x : Kind). Contains log (Alarmed x e.0.item.site t.0)) (sym e.2) (subst (λ (x : Site). Contains log (Alarmed kind x t.0)) (sym e.3) t.1) in
    (e.0, e.1, e.2, e.3, within_holds t.0 (Span e.0.item.low e.0.item.high) (kept value) (a.range.holds t.0 there) t.2)

-- ---- the whole, for each component of the unit

module _ (name text : List ℕ) (tree : SourceTree) (made : Report) (r : IsReportOf name text tree made) (component : Component) (task : TaskCode) (a : AreAlike r.component component r.task task) where
  -- the lines of the cells of one component are those of the other's
  lines_too : AreRanges task r.table made.ranges
  lines_too = record {
    names = r.ranges.names ∙ ap (λ (cells : List CellInfo). map (λ cell. cell.path) cells) a.cells;
    ranges = λ k line there. ap (λ (cells : List CellInfo). hull (at (points cells) k) (at (part_at r.table 0).own k)) (sym a.cells) ∙ r.ranges.ranges k line there;
  }

  foretold_by : (outcome : Outcome) → IsCovered component r.table outcome → IsForetold component made outcome
  foretold_by (Continues state) h = in_lines component task r.table made.ranges state a.second lines_too h
  foretold_by (Faulty state me kind site value) h =
      let (t, there, alarmed) = h.1 in
      let one = only_one task t me (sym (ap (λ (tasks : List TaskCode). slice_get tasks me) a.second) ∙ there) in
      let same : pass_of t r.table me ≡ pass_of r.task r.table 0 =
      ap (λ (u : TaskCode). pass_of u r.table me) (sym one.1) ∙ ap (pass_of task r.table) one.0 ∙ sym (same_pass r.task task r.table 0 a.code) in (
        in_lines component task r.table made.ranges state a.second lines_too h.0,
        at_alarm name text tree r.unit (pass_of r.task r.table 0).log made.alarms kind site value r.alarms (subst (λ (p : Passed). IsAlarmed p.log kind site value) same alarmed),
      )

pub foretold : Theorem → (name text : List ℕ) (tree : SourceTree) (made : Report) (r : IsReportOf name text tree made) (component : Component) → IsComponent r.unit component → (moves : List Move) → IsForetold component made (run component moves (start component))
foretold law name text tree made r component planned moves =
    let a = alike r.unit r.component component r.task planned.task r.planned planned r.tasks planned.tasks in
    foretold_by name text tree made r component planned.task a (run component moves (start component))
    (law r.grid component r.table (closed_too r.grid component r.component planned.task r.task r.table (alike_back r.component component r.task planned.task a) r.solved.closed) moves)
