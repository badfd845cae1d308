-- What was put says FREE of safe programs alone, and ALARMS of programs whose faults are alarmed:
-- the byte at 8 tells a verdict from each other line, and the report that was made is the one that
-- the text defines.
use Rattle.std.proofs.Common.{◌≡◌, ℕ, ◌<◌, min, List, [], ◌∷◌, ◌++◌, length, take, get_or, Some, Ok, Err, refl, ap, sym, subst, ◌∙◌, arith, codes, lit<, inl, inr}
use Rattle.std.specs.Prelude.{Option, Result, flat_map}
use Rattle.std.specs.List.{Contains}
use Rattle.std.proofs.lemmas.List.{get_or-take, length-take, append_cancel_left}
use Rattle.std.proofs.Math.Seq.{take-length}
use Rattle.std.specs.Io.KnownBytes.{Appends}
use Rattle.station_ports.specs.Views.{PortView}
use Rattle.station_ports.specs.Calls.{Puts, IsContent}
use Rattle.station_ports.specs.declared.outside.PutRefusal.{PutRefusal}
use Rattle.station_ports.specs.declared.outside.PutRefusal.TheVariants as refusal
use Rattle.first_form.specs.declared.tree.Unit.{Unit as SourceUnit}
use Rattle.st_tree.specs.declared.code.Component.{Component}
use Rattle.task_config.specs.Plan.{IsComponent}
use Rattle.task_meaning.specs.Meaning.{Move, Outcome, Continues, Faulty, start, run}
use Rattle.task_config.proofs.Planned.{component_steady}
use Rattle.cycle_analysis.specs.Table.{Theorem}
use Rattle.cycle_analysis.specs.Steady.{Theorem_steady}
use Rattle.finding_spans.specs.declared.report.Alarm.{Alarm}
use Rattle.finding_spans.specs.declared.report.Entry.{Entry}
use Rattle.finding_spans.specs.declared.report.Report.{Report}
use Rattle.finding_spans.specs.declared.report.Verdict.{Verdict}
use Rattle.finding_spans.specs.declared.report.Verdict.TheVariants as verdict
use Rattle.report_text.specs.Text.{verdict_line, alarm_line, range_line, end_line, text_of}
use Rattle.station_cli.specs.Words.{Command, check, command_of}
use Rattle.st_units.specs.SourceTrees.{OneTree, NoTreeAndFault}
use Rattle.first_form.specs.Laws.{OneForm}
use Rattle.station_cli.specs.Report.{IsReport, IsAnalysed}
use Rattle.station_cli.proofs.Trees.{one_form_of, no_form_of}
use Rattle.station_cli.specs.Reports.{Fits, IsOfAnalysis}
use Rattle.station_cli.specs.Run.{World, Course, misused, checked, too_long, unread, out_of_memory, Happens, max_file, IsWork, IsWritten}
use Rattle.station_cli.specs.Run.{verdict_status}
use Rattle.station_cli.specs.Causes.{IsReportedAs}
use Rattle.station_cli.specs.Run as runs
use Rattle.station_cli.specs.Headline.{IsProgram, IsForetold, IsFaultless, IsOfReport, IsSafe, FreeIsSafe, NeverWaits, IsCovered, AlarmsCover, IsReportedSafe, IsReportedCovered, ReportsHold, FreeHolds}
use Rattle.station_cli.specs.declared.status.Status.{Status}
use Rattle.station_cli.specs.declared.status.Status.TheVariants.{Clean, Open}
use Rattle.station_cli.proofs.Runs.{foretold}

-- ---- what was put

-- what was appended is what was put
appended_is : (old new : Option (List ℕ)) (before bytes part : List ℕ) → old ≡ Some before → new
    ≡ Some (before ++ bytes) → Appends old new part → bytes ≡ part
appended_is old new before bytes part e f h = append_cancel_left before bytes part (rw (e, f) at h)

-- it is a prefix of the text
put_prefix : (old new : Option (List ℕ)) (before bytes text : List ℕ)
    (answer : Result (Unit {0}) PutRefusal) → old ≡ Some before → new ≡ Some (before ++ bytes)
    → Puts old new text answer → (n : ℕ) × (bytes ≡ take n text)
put_prefix old new before bytes text (Ok done) e f h =
    (length text, appended_is old new before bytes text e f h ∙ sym (take-length text))
put_prefix old new before bytes text (Err refusal.Failed) e f h =
    (h.0, appended_is old new before bytes (take h.0 text) e f h.1.appended)
put_prefix old new before bytes text (Err refusal.NoMemory) e f h =
    (h.0, appended_is old new before bytes (take h.0 text) e f h.1.appended)

-- a prefix that begins with these words has their letter at 8, and so has the text
ninth : (text bytes words : List ℕ) (n count letter : ℕ) → bytes ≡ take n text → take count bytes
    ≡ words → length words ≡ count → 8 < count → get_or words 8 0 ≡ letter → get_or text 8 0
    ≡ letter
ninth text bytes words n count letter e h full long is =
    let f : take count (take n text) ≡ words = rw (← e) h in
    let lengths : min count (min n (length text)) ≡ length words =
    simp length-take at (ap length f) in
    let in_n : 8 < n = omega (arith, lengths, full, long) in
    let at_eight : get_or (take count (take n text)) 8 0 ≡ letter =
    ap (λ (l : List ℕ). get_or l 8 0) f ∙ is in
    sym (get_or-take n text 8 0 in_n) ∙ sym (get_or-take count (take n text) 8 0 long) ∙ at_eight

-- what comes before and after the letter at 8 stands in the verdict's line
free_at : (v : Verdict) (alarms ranges ended : List ℕ)
    → get_or (verdict_line v ++ alarms ++ ranges ++ ended) 8 0 ≡ 70 → v ≡ verdict.Free
free_at verdict.Free alarms ranges ended e = refl
free_at (verdict.Alarms told) alarms ranges ended e = absurd (omega (arith, e))
free_at (verdict.Refused told) alarms ranges ended e = absurd (omega (arith, e))
free_at (verdict.NotAnalysed told) alarms ranges ended e = absurd (omega (arith, e))

kept_at : (v : Verdict) (alarms ranges ended : List ℕ)
    → get_or (verdict_line v ++ alarms ++ ranges ++ ended) 8 0 ≡ 65 → IsOfAnalysis v
kept_at verdict.Free alarms ranges ended e = tt
kept_at (verdict.Alarms count) alarms ranges ended e = tt
kept_at (verdict.Refused refused) alarms ranges ended e = omega (arith, e)
kept_at (verdict.NotAnalysed reason) alarms ranges ended e = omega (arith, e)

report_free : (made : Report) → get_or (text_of made) 8 0 ≡ 70 → made.verdict ≡ verdict.Free
report_free made e =
    free_at made.verdict (flat_map alarm_line made.alarms) (flat_map range_line made.ranges)
    (end_line made.open_count made.waived_count) e

report_kept : (made : Report) → get_or (text_of made) 8 0 ≡ 65 → IsOfAnalysis made.verdict
report_kept made e =
    kept_at made.verdict (flat_map alarm_line made.alarms) (flat_map range_line made.ranges)
    (end_line made.open_count made.waived_count) e

-- ---- a report that is no refusal

-- the course whose line has this letter at 8 is that of a report
pub record IsChecked (asked : Option Command) (old : World) (letter : ℕ) (text : List ℕ) : Type 0
  where
    pub name : List ℕ
    pub content : List ℕ
    pub made : Report
    pub asks : asked ≡ Some (check name)
    pub read : IsContent old.files name max_file content
    pub report : IsReport name content made
    pub text_is : text ≡ text_of made
    pub begins : get_or (text_of made) 8 0 ≡ letter

checked_of : (asked : Option Command) (old new : World) (letter : ℕ) (course : Course)
    (text : List ℕ) → letter < 90 → Happens asked old new course → text ≡ runs.text_of course
    → get_or text 8 0 ≡ letter → IsChecked asked old letter text
checked_of asked old new letter misused text low h is e =
    absurd (omega (arith, low, e, ap (λ (l : List ℕ). get_or l 8 0) is))
checked_of asked old new letter (checked name content made) text low h is e =
    record {
      name = name;
      content = content;
      made = made;
      asks = h.0;
      read = h.1;
      report =
          h.2;
      text_is = is;
      begins = sym (ap (λ (l : List ℕ). get_or l 8 0) is) ∙ e;
    }
checked_of asked old new letter (too_long name) text low h is e =
    absurd (omega (arith, low, e, ap (λ (l : List ℕ). get_or l 8 0) is))
checked_of asked old new letter (unread name) text low h is e =
    absurd (omega (arith, low, e, ap (λ (l : List ℕ). get_or l 8 0) is))
checked_of asked old new letter out_of_memory text low h is e =
    absurd (omega (arith, low, e, ap (λ (l : List ℕ). get_or l 8 0) is))

analysed_of : (name text : List ℕ) (made : Report) → IsReport name text made
    → IsOfAnalysis made.verdict → IsAnalysed name text made
analysed_of name text made (inl a) h = a
analysed_of name text made (inr (inl r)) h = absurd (subst IsOfAnalysis r.verdict_is h)
analysed_of name text made (inr (inr r)) h = absurd (subst IsOfAnalysis r.verdict_is h)

-- ---- the program of the text is the one that was analysed

units_are : (u v : SourceUnit) → u ∷ [] ≡ v ∷ [] → u ≡ v
units_are u v e = cc

planned_of : OneTree → OneForm → (name text : List ℕ) (made : Report)
    (a : IsAnalysed name text made)
    (component : Component) → IsProgram text component → IsComponent a.report.unit component
planned_of one_tree one_form name text made a component p =
    let tree : p.tree ≡ a.tree =
    one_form_of one_tree one_form text p.tree a.tree p.spelled a.spelled in
    let unit : p.unit ≡ a.report.unit =
    units_are p.unit a.report.unit (sym p.units ∙ ap (λ t. t.units) tree ∙ a.report.units) in
    subst (λ (u : SourceUnit). IsComponent u component) unit p.planned

program_of : (name text : List ℕ) (made : Report) (a : IsAnalysed name text made)
    → IsProgram text a.report.component
program_of name text made a = record {
  tree = a.tree;
  unit = a.report.unit;
  spelled = a.spelled;
  units = a.report.units;
  planned = a.report.planned;
}

foretold_of : Theorem → OneTree → OneForm → (name text : List ℕ) (made : Report)
    → IsAnalysed name text made → (component : Component) → IsProgram text component
    → (moves : List Move) → IsForetold component made (run component moves (start component))
foretold_of law one_tree one_form name text made a component p moves =
    foretold law name text a.tree made a.report component
    (planned_of one_tree one_form name text made a component p) moves

live_of : Theorem_steady → (text : List ℕ) → NeverWaits text
live_of steady text component p moves state e =
    steady component (component_steady p.unit component p.planned) moves state e

-- without alarms there is no fault
no_alarm : (alarms : List (Entry Alarm)) (e : Entry Alarm) → length alarms ≡ 0 → Contains alarms e
    → ⊥
no_alarm alarms e none there = omega (arith, none, there.1)

faultless_by : (component : Component) (made : Report) (outcome : Outcome) → length made.alarms ≡ 0
    → IsForetold component made outcome → IsFaultless component made outcome
faultless_by component made (Continues state) none h = h
faultless_by component made (Faulty state me kind site value) none h =
    no_alarm made.alarms h.1.0 none h.1.1

free_alarms : (v : Verdict) (alarms ranges : ℕ) → v ≡ verdict.Free → Fits v alarms ranges → alarms
    ≡ 0
free_alarms v alarms ranges e h = rw e at h

-- ---- the whole

abbrev of_report : (words : List (List ℕ)) (old : World) (bytes text : List ℕ) (n letter : ℕ)
    → bytes ≡ take n text → (c : IsChecked (command_of words) old letter text)
    → IsAnalysed c.name c.content c.made → IsOfReport words old bytes
of_report words old bytes text n letter e c a = record {
  name = c.name;
  text = c.content;
  made = c.made;
  program = a.report.component;
  asked = c.asks;
  content = c.read;
  report = c.report;
  count = n;
  bytes_are = e ∙ ap (take n) c.text_is;
  defined = program_of c.name c.content c.made a;
}

module _ (law : Theorem) (steady : Theorem_steady) (one_tree : OneTree) (one_form : OneForm)
    (words : List (List ℕ)) (old : World) (bytes text : List ℕ) (n : ℕ) (e : bytes ≡ take n text)
  where
    is_safe : (c : IsChecked (command_of words) old 70 text) → c.made.verdict ≡ verdict.Free
        → IsAnalysed c.name c.content c.made → IsSafe words old bytes
    is_safe c free a = record {
      of_report = of_report words old bytes text n 70 e c a;
      free = free;
      faultless = λ component q moves. faultless_by component c.made
          (run component moves (start component))
          (free_alarms c.made.verdict _ _ free a.report.counted.verdict)
          (foretold_of law one_tree one_form c.name c.content c.made a component q moves);
      live = live_of steady c.content;
    }

    is_covered : (c : IsChecked (command_of words) old 65 text) → IsAnalysed c.name c.content c.made
        → IsCovered words old bytes
    is_covered c a = record {
      of_report = of_report words old bytes text n 65 e c a;
      foretold = λ component q moves. foretold_of law one_tree one_form c.name c.content c.made a
          component q moves;
      live = live_of steady c.content;
    }

of_free : (v : Verdict) → v ≡ verdict.Free → IsOfAnalysis v
of_free v e = subst IsOfAnalysis (sym e) tt

module _ (law : Theorem) (steady : Theorem_steady) (one_tree : OneTree) (one_form : OneForm)
    (words : List (List ℕ)) {old new : World} {status ended : Status} {text : List ℕ}
    {old_out new_out : PortView}
    (work : IsWork (command_of words) old new status text)
    (put : IsWritten old_out new_out status text ended) where
  pub free_says : FreeIsSafe words old old_out new_out
  free_says before bytes says =
      let p : (n : ℕ) × (bytes ≡ take n text) =
      put_prefix old_out.sent new_out.sent before bytes text put.answer says.old_bytes
      says.new_bytes put.written.bytes_put in
      let c = checked_of (command_of words) old new 70 work.course text (omega arith) work.cause
      work.text_is (ninth text bytes (codes "VERDICT FREE") p.0 12 70 p.1 says.begins refl
      (lit< tt) refl) in
      let free = report_free c.made c.begins in
      is_safe law steady one_tree one_form words old bytes text p.0 p.1 c free
      (analysed_of c.name c.content c.made c.report (of_free c.made.verdict free))

  pub alarms_say : AlarmsCover words old old_out new_out
  alarms_say before bytes says =
      let p : (n : ℕ) × (bytes ≡ take n text) =
      put_prefix old_out.sent new_out.sent before bytes text put.answer says.old_bytes
      says.new_bytes put.written.bytes_put in
      let c = checked_of (command_of words) old new 65 work.course text (omega arith) work.cause
      work.text_is (ninth text bytes (codes "VERDICT ALARMS") p.0 14 65 p.1 says.begins refl
      (lit< tt) refl) in
      is_covered law steady one_tree one_form words old bytes text p.0 p.1 c
      (analysed_of c.name c.content c.made c.report (report_kept c.made c.begins))

-- ---- what the definitions say alone

-- a text that spells a program is not refused
module _ (law : Theorem) (steady : Theorem_steady) (one_tree : OneTree) (one_form : OneForm)
    (not_both : NoTreeAndFault) where
  analysed_program : (name text : List ℕ) (made : Report) (component : Component)
      → IsProgram text component → IsReport name text made → IsAnalysed name text made
  analysed_program name text made component p (inl a) = a
  analysed_program name text made component p (inr (inl r)) =
      absurd (not_both text p.spelled.file r.code r.at p.spelled.parsed r.fault)
  analysed_program name text made component p (inr (inr r)) =
      absurd (no_form_of one_tree text r.file r.parsed r.other p.tree p.spelled)

  pub reports_hold : ReportsHold
  reports_hold name text made h component p moves =
      foretold_of law one_tree one_form name text made
      (analysed_program name text made component p h) component p moves

  pub free_holds : FreeHolds
  free_holds name text made h free =
      let a = analysed_of name text made h (of_free made.verdict free) in (
        (λ component p moves. faultless_by component made (run component moves (start component))
            (free_alarms made.verdict _ _ free a.report.counted.verdict)
            (reports_hold name text made h component p moves)),
        live_of steady text,
      )

  free_status : (v : Verdict) → verdict_status v ≡ Clean → v ≡ verdict.Free
  free_status verdict.Free e = refl
  free_status (verdict.Alarms told) e = cc
  free_status (verdict.Refused told) e = cc
  free_status (verdict.NotAnalysed told) e = cc

  pub reported_safe : (words : List (List ℕ)) (old : World) → IsReportedAs words old Clean
      → IsReportedSafe words old
  reported_safe words old r =
      let h = free_holds r.name r.text r.made r.report (free_status r.made.verdict r.status_is) in
      record { reported = r; faultless = h.0; live = h.1 }

  pub reported_covered : (words : List (List ℕ)) (old : World) → IsReportedAs words old Open
      → IsReportedCovered words old
  reported_covered words old r =
      record {
        reported = r;
        foretold = reports_hold r.name r.text r.made r.report;
        live =
            live_of steady r.text;
      }
