-- The causes and the completeness follow from what the work and the writing ensure.
use Rattle.station_cli.specs.Run.{out_of_memory}
use Rattle.station_cli.proofs.Complete.{completes, misused_ends, above_ends}
use Rattle.station_cli.specs.declared.status.Status.TheVariants.{Clean, Open, NotAnalysed, Refused}
use Rattle.station_cli.proofs.Reported.{reported_ends, status_reported, status_above}
use Rattle.station_cli.proofs.Says.{free_says, alarms_say, reported_safe, reported_covered}
use Rattle.station_cli.proofs.run.run.Goals as goal
use Rattle.std.proofs.Common.{refl, map}
use Rattle.std.specs.Prelude.{string_bytes}

pub returns-in-Ok-clause-complete : goal.returns-in-Ok-clause-complete
returns-in-Ok-clause-complete g c =
    completes _ c.in-Ok.ensures.work (rw c.deref.ensures.value at c.write_line.ensures)

pub returns-in-Ok-clause-misused : goal.returns-in-Ok-clause-misused
returns-in-Ok-clause-misused g c =
    misused_ends (map string_bytes c.args.words.now) c.in-Ok.ensures.work
    (rw c.deref.ensures.value at c.write_line.ensures)

pub returns-in-Ok-clause-above : goal.returns-in-Ok-clause-above
returns-in-Ok-clause-above g c =
    above_ends _ c.in-Ok.ensures.work (rw c.deref.ensures.value at c.write_line.ensures)

pub returns-in-Err-clause-complete : goal.returns-in-Err-clause-complete
returns-in-Err-clause-complete g c =
    completes _ {new = record { files = g.F.Files.view c.work.new.files }}
    (record {
      course = out_of_memory;
      cause = c.work.ensures.calls;
      status_is = refl;
      text_is =
          refl;
    })
    c.write_no_memory.ensures

pub returns-in-Err-clause-misused : goal.returns-in-Err-clause-misused
returns-in-Err-clause-misused g c =
    misused_ends (map string_bytes c.args.words.now) {old =
    record { files = g.F.Files.view c.args.files.now }} {new =
    record { files = g.F.Files.view c.work.new.files }}
    (record {
      course = out_of_memory;
      cause = c.work.ensures.calls;
      status_is = refl;
      text_is =
          refl;
    })
    c.write_no_memory.ensures

pub returns-in-Err-clause-above : goal.returns-in-Err-clause-above
returns-in-Err-clause-above g c =
    above_ends _ {new = record { files = g.F.Files.view c.work.new.files }}
    (record {
      course = out_of_memory;
      cause = c.work.ensures.calls;
      status_is = refl;
      text_is =
          refl;
    })
    c.write_no_memory.ensures

pub returns-in-Ok-clause-free : goal.returns-in-Ok-clause-free
returns-in-Ok-clause-free g c =
    free_says c.headline.ensures.covered c.headline.ensures.steady c.text_laws.ensures.one_tree
    c.form_laws.ensures.one (map string_bytes c.args.words.now) c.in-Ok.ensures.work
    (rw c.deref.ensures.value at c.write_line.ensures)

pub returns-in-Ok-clause-alarms : goal.returns-in-Ok-clause-alarms
returns-in-Ok-clause-alarms g c =
    alarms_say c.headline.ensures.covered c.headline.ensures.steady c.text_laws.ensures.one_tree
    c.form_laws.ensures.one (map string_bytes c.args.words.now) c.in-Ok.ensures.work
    (rw c.deref.ensures.value at c.write_line.ensures)

pub returns-in-Err-clause-free : goal.returns-in-Err-clause-free
returns-in-Err-clause-free g c =
    free_says c.headline.ensures.covered c.headline.ensures.steady c.text_laws.ensures.one_tree
    c.form_laws.ensures.one (map string_bytes c.args.words.now) {old =
    record { files = g.F.Files.view c.args.files.now }} {new =
    record { files = g.F.Files.view c.work.new.files }}
    (record {
      course = out_of_memory;
      cause = c.work.ensures.calls;
      status_is = refl;
      text_is =
          refl;
    })
    c.write_no_memory.ensures

pub returns-in-Err-clause-alarms : goal.returns-in-Err-clause-alarms
returns-in-Err-clause-alarms g c =
    alarms_say c.headline.ensures.covered c.headline.ensures.steady c.text_laws.ensures.one_tree
    c.form_laws.ensures.one (map string_bytes c.args.words.now) {old =
    record { files = g.F.Files.view c.args.files.now }} {new =
    record { files = g.F.Files.view c.work.new.files }}
    (record {
      course = out_of_memory;
      cause = c.work.ensures.calls;
      status_is = refl;
      text_is =
          refl;
    })
    c.write_no_memory.ensures

pub returns-in-Ok-clause-reported : goal.returns-in-Ok-clause-reported
returns-in-Ok-clause-reported g c =
    reported_ends c.one_report.ensures (map string_bytes c.args.words.now) c.in-Ok.ensures.work
    (rw c.deref.ensures.value at c.write_line.ensures)

pub returns-in-Err-clause-reported : goal.returns-in-Err-clause-reported
returns-in-Err-clause-reported g c =
    reported_ends c.one_report.ensures (map string_bytes c.args.words.now) {old =
    record { files = g.F.Files.view c.args.files.now }} {new =
    record { files = g.F.Files.view c.work.new.files }}
    (record {
      course = out_of_memory;
      cause = c.work.ensures.calls;
      status_is = refl;
      text_is =
          refl;
    })
    c.write_no_memory.ensures

pub returns-in-Ok-clause-clean : goal.returns-in-Ok-clause-clean
returns-in-Ok-clause-clean g c = λ e.
    reported_safe c.headline.ensures.covered c.headline.ensures.steady c.text_laws.ensures.one_tree
    c.form_laws.ensures.one c.text_laws.ensures.not_both (map string_bytes c.args.words.now) _
    (status_reported (map string_bytes c.args.words.now) c.in-Ok.ensures.work
    (rw c.deref.ensures.value at c.write_line.ensures) Clean e refl)

pub returns-in-Err-clause-clean : goal.returns-in-Err-clause-clean
returns-in-Err-clause-clean g c = λ e.
    reported_safe c.headline.ensures.covered c.headline.ensures.steady c.text_laws.ensures.one_tree
    c.form_laws.ensures.one c.text_laws.ensures.not_both (map string_bytes c.args.words.now) _
    (status_reported (map string_bytes c.args.words.now) {old =
    record { files = g.F.Files.view c.args.files.now }} {new =
    record { files = g.F.Files.view c.work.new.files }}
    (record {
      course = out_of_memory;
      cause = c.work.ensures.calls;
      status_is = refl;
      text_is =
          refl;
    }) c.write_no_memory.ensures Clean e refl)

pub returns-in-Ok-clause-open : goal.returns-in-Ok-clause-open
returns-in-Ok-clause-open g c = λ e.
    reported_covered c.headline.ensures.covered c.headline.ensures.steady
    c.text_laws.ensures.one_tree c.form_laws.ensures.one c.text_laws.ensures.not_both
    (map string_bytes c.args.words.now) _
    (status_reported (map string_bytes c.args.words.now) c.in-Ok.ensures.work
    (rw c.deref.ensures.value at c.write_line.ensures) Open e refl)

pub returns-in-Err-clause-open : goal.returns-in-Err-clause-open
returns-in-Err-clause-open g c = λ e.
    reported_covered c.headline.ensures.covered c.headline.ensures.steady
    c.text_laws.ensures.one_tree c.form_laws.ensures.one c.text_laws.ensures.not_both
    (map string_bytes c.args.words.now) _
    (status_reported (map string_bytes c.args.words.now) {old =
    record { files = g.F.Files.view c.args.files.now }} {new =
    record { files = g.F.Files.view c.work.new.files }}
    (record {
      course = out_of_memory;
      cause = c.work.ensures.calls;
      status_is = refl;
      text_is =
          refl;
    }) c.write_no_memory.ensures Open e refl)

pub returns-in-Ok-clause-refused : goal.returns-in-Ok-clause-refused
returns-in-Ok-clause-refused g c =
    λ e. status_reported (map string_bytes c.args.words.now) c.in-Ok.ensures.work
    (rw c.deref.ensures.value at c.write_line.ensures) Refused e refl

pub returns-in-Ok-clause-not_analysed : goal.returns-in-Ok-clause-not_analysed
returns-in-Ok-clause-not_analysed g c =
    λ e. status_reported (map string_bytes c.args.words.now) c.in-Ok.ensures.work
    (rw c.deref.ensures.value at c.write_line.ensures) NotAnalysed e refl

pub returns-in-Ok-clause-too_long : goal.returns-in-Ok-clause-too_long
returns-in-Ok-clause-too_long g c =
    λ e. status_above (map string_bytes c.args.words.now) c.in-Ok.ensures.work
    (rw c.deref.ensures.value at c.write_line.ensures) e
