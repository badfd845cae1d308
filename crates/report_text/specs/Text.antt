-- The bytes of the text report. Source: this profile. The code appends to one text in order.
use Rattle.std.specs.Prelude.{ℕ, ℤ, List, ◌++◌, flat_map, codes, decimal}
use Rattle.std.specs.Fmt.{signed_decimal}
use Rattle.iec_tables.specs.Kinds as kinds
use Rattle.iec_tables.specs.Faults as faults
use Rattle.iec_tables.specs.declared.fault.FaultCode.{FaultCode}
use Rattle.st_tree.specs.Plans as plans
use Rattle.finding_spans.specs.declared.report.Verdict.{Verdict}
use Rattle.finding_spans.specs.declared.report.Verdict.TheVariants.{Free, Alarms, Refused, NotAnalysed}
use Rattle.finding_spans.specs.declared.report.Refusal.{Refusal}
use Rattle.finding_spans.specs.declared.report.Alarm.{Alarm}
use Rattle.finding_spans.specs.declared.report.Entry.{Entry}
use Rattle.finding_spans.specs.declared.report.RangeLine.{RangeLine}
use Rattle.finding_spans.specs.declared.report.Report.{Report}

-- a place of a file, `file:line:column`
unfoldable pub place : List ℕ → ℕ → ℕ → List ℕ
place file line column = file ++ codes ":" ++ decimal line ++ codes ":" ++ decimal column

-- `low..high`
unfoldable pub bounds : ℤ → ℤ → List ℕ
bounds low high = signed_decimal low ++ codes ".." ++ signed_decimal high

-- the number and the name of a fault, `6 Grammar`
unfoldable pub fault : FaultCode → List ℕ
fault code = decimal (faults.code_of code) ++ codes " " ++ faults.name_of code

abbrev pub refusal_line : Refusal → List ℕ
refusal_line r = codes "VERDICT REFUSED " ++ place r.file r.line r.column ++ codes " " ++ fault r.code ++ codes "\n"

abbrev pub verdict_line : Verdict → List ℕ
verdict_line Free = codes "VERDICT FREE\n"
verdict_line (Alarms alarms) = codes "VERDICT ALARMS " ++ decimal alarms.count ++ codes "\n"
verdict_line (Refused refusal) = refusal_line refusal
verdict_line (NotAnalysed reason) = codes "VERDICT NOT ANALYSED " ++ plans.name_of reason ++ codes "\n"

-- what kind of fault an alarm is of, and what it is reported under
abbrev pub alarm_head : Alarm → List ℕ
alarm_head a =
    codes "ALARM A" ++ decimal (kinds.code_of a.kind) ++ codes " " ++ kinds.name_of a.kind ++ codes " " ++ a.unit ++ codes " " ++ a.subject ++ codes " "

abbrev pub alarm_line : Entry Alarm → List ℕ
alarm_line e = alarm_head e.item ++ place e.file e.line e.column ++ codes " range " ++ bounds e.item.low e.item.high ++ codes "\n"

abbrev pub range_line : RangeLine → List ℕ
range_line r = codes "RANGE " ++ r.name ++ codes " " ++ bounds r.low r.high ++ codes "\n"

abbrev pub end_line : ℕ → ℕ → List ℕ
end_line open_count waived_count = codes "END open " ++ decimal open_count ++ codes " waived " ++ decimal waived_count ++ codes "\n"

-- the whole text
abbrev pub text_of : Report → List ℕ
text_of r = verdict_line r.verdict ++ flat_map alarm_line r.alarms ++ flat_map range_line r.ranges ++ end_line r.open_count r.waived_count
