-- What the verdict and the counts of a report say of its lines. Source: this profile. The code counts the lines that it has made.
use Rattle.std.specs.Prelude.{◌≡◌, ◌<◌, ◌+◌, ℕ, length}
use Rattle.finding_spans.specs.declared.report.Verdict.{Verdict}
use Rattle.finding_spans.specs.declared.report.Verdict.TheVariants.{Free, Alarms, Refused, NotAnalysed}
use Rattle.finding_spans.specs.declared.report.Report.{Report}

-- FREE is said where there are no alarms, ALARMS with their number where there are some; a text that is refused or isn't analysed has neither alarms nor ranges.
abbrev pub Fits : Verdict → (alarms ranges : ℕ) → Type 0
Fits Free alarms ranges = alarms ≡ 0
Fits (Alarms told) alarms ranges = (told.count ≡ alarms) × (0 < alarms)
Fits (Refused refusal) alarms ranges = (alarms ≡ 0) × (ranges ≡ 0)
Fits (NotAnalysed reason) alarms ranges = (alarms ≡ 0) × (ranges ≡ 0)

-- the verdict is one of the analysis
abbrev pub IsOfAnalysis : Verdict → Type 0
IsOfAnalysis Free = Unit {0}
IsOfAnalysis (Alarms told) = Unit {0}
IsOfAnalysis (Refused refusal) = ⊥
IsOfAnalysis (NotAnalysed reason) = ⊥

-- The verdict fits the lines, and each alarm is open or waived.
pub record IsCounted (report : Report) : Type 0 where
  pub verdict : Fits report.verdict (length report.alarms) (length report.ranges)
  pub counted : report.open_count + report.waived_count ≡ length report.alarms
