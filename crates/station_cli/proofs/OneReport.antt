-- A file has one report at most.
use Rattle.std.proofs.Common.{◌≡◌, ℕ, List, [], ◌∷◌, sym, ap, subst, ◌∙◌, inl, inr}
use Rattle.std.specs.Prelude.{ℤ, ◌↔◌}
use Rattle.std.specs.List.{Contains}
use Rattle.std.proofs.lemmas.Option.{same_Some}
use Rattle.interval_domain.proofs.OneGrid.{one_grid}
use Rattle.iec_tables.specs.declared.fault.FaultCode.{FaultCode}
use Rattle.first_form.specs.declared.tree.Unit.{Unit as SourceUnit}
use Rattle.first_form.specs.declared.tree.SourceTree.{SourceTree}
use Rattle.st_tree.specs.declared.code.TaskCode.{TaskCode}
use Rattle.st_tree.specs.declared.code.Component.{Component}
use Rattle.st_tree.specs.Code.{reading}
use Rattle.first_form.specs.Nodes.{IsNumbered}
use Rattle.task_config.specs.Plan.{IsTask, IsComponent}
use Rattle.cycle_analysis.specs.Pass.{Entry as Told, Passed}
use Rattle.cycle_analysis.specs.Table.{Part, pass_of, IsSolution}
use Rattle.cycle_analysis.proofs.OneTable.{AreAlike, same_pass, one_table}
use Rattle.finding_spans.proofs.OnePosition.{one_position}
use Rattle.finding_spans.specs.declared.report.Refusal.{Refusal}
use Rattle.finding_spans.specs.declared.report.Report.{Report}
use Rattle.station_cli.specs.Report.{AreAlarms, AreRanges, IsReportOf, IsAnalysed, IsRefusal, IsReport}
use Rattle.st_tree.specs.declared.plan.PlanRefusal.TheVariants.{NotBuilt}
use Rattle.st_units.specs.SourceTrees.{OneTree, OneTextFault, NoTreeAndFault}
use Rattle.first_form.specs.Laws.{OneForm}
use Rattle.station_cli.proofs.Trees.{one_form_of, no_form_of}
use Rattle.station_cli.proofs.OneAlarms.{one_alarms}
use Rattle.station_cli.proofs.OneRanges.{one_ranges}
use Rattle.station_cli.proofs.OneVerdict.{one_plain, one_refused, one_unbuilt}

-- ---- a text that is analysed

first_same : {X : Type 0} (x y : X) (xs : List X) → xs ≡ x ∷ [] → xs ≡ y ∷ [] → x ≡ y
first_same x y xs a b = let e = sym a ∙ b in cc e

-- the task of a component
task_is : (unit : SourceUnit) (c : Component) (t : TaskCode) → IsComponent unit c → c.tasks ≡ t ∷ []
    → IsTask unit t
task_is unit c t h e = subst (IsTask unit) (first_same h.task t c.tasks h.tasks e) h.is_task

-- two components of one unit
pub alike : (unit : SourceUnit) (c d : Component) (t u : TaskCode) → IsComponent unit c
    → IsComponent unit d → c.tasks ≡ t ∷ [] → d.tasks ≡ u ∷ [] → AreAlike c d t u
alike unit c d t u a b first second =
    let left = task_is unit c t a first in
    let right = task_is unit d u b second in
    record {
      first = first;
      second = second;
      code = same_Some (reading t.code) (reading u.code) (left.code ∙ sym right.code);
      cells = left.cells ∙ sym right.cells;
      shared = a.shared ∙ sym b.shared;
    }

same_literals : (unit : SourceUnit) (c d : Component) → IsComponent unit c → IsComponent unit d
    → (n : ℤ) → Contains c.literals n ↔ Contains d.literals n
same_literals unit c d a b n =
    ((λ h. (b.literals n).1 ((a.literals n).0 h)), (λ h. (a.literals n).1 ((b.literals n).0 h)))

one_report_of : (name text : List ℕ) (tree : SourceTree) (made other : Report) → IsNumbered tree
    → IsReportOf name text tree made → IsReportOf name text tree other → made ≡ other
one_report_of name text tree made other numbered a b =
    let unit : b.unit ≡ a.unit = first_same b.unit a.unit tree.units b.units a.units in
    let planned : IsComponent a.unit b.component =
    subst (λ (u : SourceUnit). IsComponent u b.component) unit b.planned in
    let same = alike a.unit a.component b.component a.task b.task a.planned planned a.tasks
    b.tasks in
    let grid : b.grid ≡ a.grid =
    sym (one_grid a.component.literals b.component.literals a.grid b.grid
    (same_literals a.unit a.component b.component a.planned planned) a.grid_is b.grid_is) in
    let solved : IsSolution a.grid b.component b.table =
    subst (λ (g : List ℤ). IsSolution g b.component b.table) grid b.solved in
    let table : b.table ≡ a.table =
    sym (one_table a.grid a.component b.component a.task b.task a.table b.table same a.solved
    solved) in
    let log : (pass_of b.task b.table 0).log ≡ (pass_of a.task a.table 0).log =
    ap (λ (t : List Part). (pass_of b.task t 0).log) table ∙ ap (λ (p : Passed). p.log)
    (sym (same_pass a.task b.task a.table 0 same.code)) in
    let told : AreAlarms name text tree a.unit (pass_of a.task a.table 0).log other.alarms =
    subst (λ (l : List Told). AreAlarms name text tree a.unit l other.alarms) log
    (subst (λ (u : SourceUnit). AreAlarms name text tree u (pass_of b.task b.table 0).log
    other.alarms) unit b.alarms) in
    let ranges : AreRanges b.task a.table other.ranges =
    subst (λ (t : List Part). AreRanges b.task t other.ranges) table b.ranges in
    one_plain made other (record { analysed = a.analysed; counted = a.counted; waived = a.waived })
    (record { analysed = b.analysed; counted = b.counted; waived = b.waived })
    (one_alarms name text tree a.unit (pass_of a.task a.table 0).log a.units numbered made.alarms
    other.alarms a.alarms told)
    (one_ranges a.task b.task a.table made.ranges other.ranges same.cells a.ranges ranges)

-- ---- a text that is refused

abbrev refusal_at : (name : List ℕ) → (line column : ℕ) → FaultCode → Refusal
refusal_at name line column code = record { file = name; line = line; column = column; code = code }

-- ---- the law, from those of the lexer and the parser

module _ (one_tree : OneTree) (one_fault : OneTextFault) (not_both : NoTreeAndFault)
    (one_form : OneForm) where
  analysed : (name text : List ℕ) (made other : Report) → IsAnalysed name text made
      → IsAnalysed name text other → made ≡ other
  analysed name text made other a b =
      let tree : a.tree ≡ b.tree =
      one_form_of one_tree one_form text a.tree b.tree a.spelled b.spelled in
      one_report_of name text b.tree made other b.spelled.form.numbered
      (subst (λ (t : SourceTree). IsReportOf name text t made) tree a.report) b.report

  one_refusal : (name text : List ℕ) (made other : Report) → IsRefusal name text made
      → IsRefusal name text other → made ≡ other
  one_refusal name text made other a b =
      let same = one_fault text a.code b.code a.at b.at a.fault b.fault in
      let position = one_position text a.at b.at a.line a.column b.line b.column same.1 a.position
      b.position in
      one_refused made other (refusal_at name a.line a.column a.code)
      (refusal_at name b.line b.column b.code) a.verdict_is b.verdict_is
      (λ i. refusal_at name (position.0 i) (position.1 i) (same.0 i)) a.counted b.counted a.waived
      b.waived

  pub one_report : (name text : List ℕ) (made other : Report) → IsReport name text made
      → IsReport name text other → made ≡ other
  one_report name text made other (inl a) (inl b) = analysed name text made other a b
  one_report name text made other (inl a) (inr (inl b)) =
      absurd (not_both text a.spelled.file b.code b.at a.spelled.parsed b.fault)
  one_report name text made other (inl a) (inr (inr b)) =
      absurd (no_form_of one_tree text b.file b.parsed b.other a.tree a.spelled)
  one_report name text made other (inr (inl a)) (inl b) =
      absurd (not_both text b.spelled.file a.code a.at b.spelled.parsed a.fault)
  one_report name text made other (inr (inl a)) (inr (inl b)) = one_refusal name text made other a b
  one_report name text made other (inr (inl a)) (inr (inr b)) =
      absurd (not_both text b.file a.code a.at b.parsed a.fault)
  one_report name text made other (inr (inr a)) (inl b) =
      absurd (no_form_of one_tree text a.file a.parsed a.other b.tree b.spelled)
  one_report name text made other (inr (inr a)) (inr (inl b)) =
      absurd (not_both text a.file b.code b.at a.parsed b.fault)
  one_report name text made other (inr (inr a)) (inr (inr b)) =
      one_unbuilt made other NotBuilt a.verdict_is b.verdict_is a.counted b.counted a.waived
      b.waived
