-- The lines of a report determine its verdict and its counts.
use Rattle.std.proofs.Common.{◌≡◌, ℕ, ◌+◌, List, [], ◌∷◌, length, refl, sym, ap, subst, ◌∙◌, arith}
use Rattle.finding_spans.specs.declared.report.Alarm.{Alarm}
use Rattle.finding_spans.specs.declared.report.Entry.{Entry}
use Rattle.finding_spans.specs.declared.report.RangeLine.{RangeLine}
use Rattle.st_tree.specs.declared.plan.PlanRefusal.{PlanRefusal}
use Rattle.finding_spans.specs.declared.report.Refusal.{Refusal}
use Rattle.finding_spans.specs.declared.report.Report.{Report}
use Rattle.finding_spans.specs.declared.report.Verdict.{Verdict}
use Rattle.finding_spans.specs.declared.report.Verdict.TheVariants.{Free, Alarms, Refused, NotAnalysed}
use Rattle.station_cli.specs.Reports.{Fits, IsCounted, IsOfAnalysis}

one_verdict : (v w : Verdict) (alarms ranges : ℕ) → IsOfAnalysis v → IsOfAnalysis w → Fits v alarms ranges → Fits w alarms ranges → v ≡ w
one_verdict Free Free alarms ranges nv nw a b = refl
one_verdict Free (Alarms d) alarms ranges nv nw a b = absurd (omega arith)
one_verdict Free (Refused y) alarms ranges nv nw a b = absurd nw
one_verdict Free (NotAnalysed y) alarms ranges nv nw a b = absurd nw
one_verdict (Alarms c) Free alarms ranges nv nw a b = absurd (omega arith)
one_verdict (Alarms c) (Alarms d) alarms ranges nv nw a b =
    let count : c.count ≡ d.count = a.0 ∙ sym b.0 in
    let same : c ≡ d = λ i. record { count = count i } in
    ap Alarms same
one_verdict (Alarms c) (Refused y) alarms ranges nv nw a b = absurd nw
one_verdict (Alarms c) (NotAnalysed y) alarms ranges nv nw a b = absurd nw
one_verdict (Refused x) w alarms ranges nv nw a b = absurd nv
one_verdict (NotAnalysed x) w alarms ranges nv nw a b = absurd nv

same_report : (r s : Report) → r.verdict ≡ s.verdict → r.alarms ≡ s.alarms → r.ranges ≡ s.ranges → r.open_count ≡ s.open_count → r.waived_count ≡ s.waived_count → r ≡ s
same_report r s verdict alarms ranges opened waived =
    λ i. record { verdict = verdict i; alarms = alarms i; ranges = ranges i; open_count = opened i; waived_count = waived i }

all_open : (r : Report) → IsCounted r → r.waived_count ≡ 0 → r.open_count ≡ length r.alarms
all_open r h e = let total : r.open_count + r.waived_count ≡ length r.alarms = h.counted in omega arith

-- a report of the analysis that waives nothing
pub record IsPlain (report : Report) : Type 0 where
  pub analysed : IsOfAnalysis report.verdict
  pub counted : IsCounted report
  pub waived : report.waived_count ≡ 0

pub one_plain : (r s : Report) → IsPlain r → IsPlain s → r.alarms ≡ s.alarms → r.ranges ≡ s.ranges → r ≡ s
one_plain r s a b alarms ranges =
    let as_r : Fits s.verdict (length r.alarms) (length r.ranges) =
    subst (λ (es : List (Entry Alarm)). Fits s.verdict (length es) (length r.ranges)) (sym alarms)
    (subst (λ (ls : List RangeLine). Fits s.verdict (length s.alarms) (length ls)) (sym ranges) b.counted.verdict) in
    same_report r s (one_verdict r.verdict s.verdict (length r.alarms) (length r.ranges) a.analysed b.analysed a.counted.verdict as_r) alarms ranges
    (all_open r a.counted a.waived ∙ ap length alarms ∙ sym (all_open s b.counted b.waived)) (a.waived ∙ sym b.waived)

-- ---- refusals

none_left : {X : Type 0} (xs : List X) → length xs ≡ 0 → xs ≡ []
none_left [] e = refl
none_left (x ∷ xs) e = absurd (omega arith)

no_lines : (r : Report) (x : Refusal) → r.verdict ≡ Refused x → IsCounted r → (r.alarms ≡ []) × (r.ranges ≡ [])
no_lines r x e h =
    let fits : Fits (Refused x) (length r.alarms) (length r.ranges) = subst (λ (v : Verdict). Fits v (length r.alarms) (length r.ranges)) e h.verdict in
    (none_left r.alarms fits.0, none_left r.ranges fits.1)

-- two reports of one refusal
pub one_refused : (r s : Report) (x y : Refusal) → r.verdict ≡ Refused x → s.verdict ≡ Refused y → x ≡ y → IsCounted r → IsCounted s → r.waived_count ≡ 0 → s.waived_count ≡ 0 → r ≡ s
one_refused r s x y rx sy e a b unwaived unwaived_too =
    let none_r = no_lines r x rx a in
    let none_s = no_lines s y sy b in
    let alarms : r.alarms ≡ s.alarms = none_r.0 ∙ sym none_s.0 in
    same_report r s (rx ∙ ap Refused e ∙ sym sy) alarms (none_r.1 ∙ sym none_s.1) (all_open r a unwaived ∙ ap length alarms ∙ sym (all_open s b unwaived_too)) (unwaived ∙ sym unwaived_too)

-- ---- texts that aren't analysed

no_lines_unbuilt : (r : Report) (x : PlanRefusal) → r.verdict ≡ NotAnalysed x → IsCounted r → (r.alarms ≡ []) × (r.ranges ≡ [])
no_lines_unbuilt r x e h =
    let fits : Fits (NotAnalysed x) (length r.alarms) (length r.ranges) = subst (λ (v : Verdict). Fits v (length r.alarms) (length r.ranges)) e h.verdict in
    (none_left r.alarms fits.0, none_left r.ranges fits.1)

-- two reports that say so for one reason
pub one_unbuilt : (r s : Report) (x : PlanRefusal) → r.verdict ≡ NotAnalysed x → s.verdict ≡ NotAnalysed x → IsCounted r → IsCounted s → r.waived_count ≡ 0 → s.waived_count ≡ 0 → r ≡ s
one_unbuilt r s x rx sx a b unwaived unwaived_too =
    let none_r = no_lines_unbuilt r x rx a in
    let none_s = no_lines_unbuilt s x sx b in
    let alarms : r.alarms ≡ s.alarms = none_r.0 ∙ sym none_s.0 in
    same_report r s (rx ∙ sym sx) alarms (none_r.1 ∙ sym none_s.1) (all_open r a unwaived ∙ ap length alarms ∙ sym (all_open s b unwaived_too)) (unwaived ∙ sym unwaived_too)
