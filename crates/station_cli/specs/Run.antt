-- What a call of the program does. A call takes one course: each has its cause, the status it ends with and the bytes it writes.
-- A further command adds its courses, and a further object of the outside its field of World.
-- Source: this profile. The code works through the words, the file, the report and the put in this order.
use Rattle.std.specs.Prelude.{◌≡◌, ◌⊎◌, ℕ, ◌++◌, List, Option, Some, None, Result, Ok, Err, codes, Bool, true, false}
use Rattle.station_ports.specs.Views.{FilesView, PortView}
use Rattle.station_ports.specs.Calls.{IsNextCount, IsCalled, IsContent, IsTooLong, IsPut}
use Rattle.station_ports.specs.declared.outside.PutRefusal.{PutRefusal}
use Rattle.station_ports.specs.declared.outside.PutRefusal.TheVariants as put
use Rattle.finding_spans.specs.declared.report.Verdict.{Verdict}
use Rattle.finding_spans.specs.declared.report.Verdict.TheVariants as verdict
use Rattle.finding_spans.specs.declared.report.Report.{Report}
use Rattle.report_text.specs.Text as report
use Rattle.station_cli.specs.Words.{Command, check, command_of}
use Rattle.station_cli.specs.Report.{IsReport}
use Rattle.station_cli.specs.declared.status.Status.{Status}
use Rattle.station_cli.specs.declared.status.Status.TheVariants.{Clean, Open, NotAnalysed, Refused, Usage, ReadFault, WriteFault, NoMemory, TooLong}

-- what contracts see of the outside that the work reads and changes; the output stands apart
pub record World : Type 0 where
  pub files : FilesView

-- the most bytes of a file
abbrev pub max_file : ℕ
max_file = 1048576

pub data Course : Type 0 where
  -- the words are no defined command line
  misused : Course
  -- a file was read, and this is the report on it
  checked : (name text : List ℕ) → (made : Report) → Course
  -- a file is above the limit
  too_long : (name : List ℕ) → Course
  -- a file couldn't be read
  unread : (name : List ℕ) → Course
  -- there was no memory
  out_of_memory : Course

-- the files were called once, which failed
pub record IsFailedCall (old new : FilesView) : Type 0 where
  pub called : IsCalled old.calls new.calls
  pub counted : IsNextCount old.faults new.faults

-- the files were called once, which didn't fail
pub record IsGoodCall (old new : FilesView) : Type 0 where
  pub called : IsCalled old.calls new.calls
  pub counted : new.faults ≡ old.faults

-- the files were not called
pub record IsNoCall (old new : FilesView) : Type 0 where
  pub called : new.calls ≡ old.calls
  pub counted : new.faults ≡ old.faults

-- the files were called once at most
abbrev pub AtMostOnce : FilesView → FilesView → Type 0
AtMostOnce old new = IsNoCall old new ⊎ (IsGoodCall old new ⊎ IsFailedCall old new)

-- The cause of each course, of what the words ask for, and how often the files were called.
abbrev pub Happens : Option Command → World → World → Course → Type 0
Happens asked old new misused = (asked ≡ None) × (new ≡ old)
Happens asked old new (checked name text made) = (asked ≡ Some (check name)) × IsContent old.files name max_file text × IsReport name text made × IsGoodCall old.files new.files
Happens asked old new (too_long name) = (asked ≡ Some (check name)) × IsTooLong old.files name max_file × IsGoodCall old.files new.files
Happens asked old new (unread name) = (asked ≡ Some (check name)) × IsFailedCall old.files new.files
Happens asked old new out_of_memory = AtMostOnce old.files new.files

-- The work came to its end: neither a fault nor want of memory cut it short.
abbrev pub is_settled : Course → Bool
is_settled misused = true
is_settled (checked name text made) = true
is_settled (too_long name) = true
is_settled (unread name) = false
is_settled out_of_memory = false

abbrev pub verdict_status : Verdict → Status
verdict_status verdict.Free = Clean
verdict_status (verdict.Alarms alarms) = Open
verdict_status (verdict.Refused refusal) = Refused
verdict_status (verdict.NotAnalysed reason) = NotAnalysed

-- the status of each course, where its line is written
abbrev pub status_of : Course → Status
status_of misused = Usage
status_of (checked name text made) = verdict_status made.verdict
status_of (too_long name) = TooLong
status_of (unread name) = ReadFault
status_of out_of_memory = NoMemory

-- the bytes that each course writes
abbrev pub text_of : Course → List ℕ
text_of misused = codes "USAGE check serve import-waivers export-findings generate\n"
text_of (checked name text made) = report.text_of made
text_of (too_long name) = codes "ERROR too long " ++ name ++ codes "\n"
text_of (unread name) = codes "ERROR read " ++ name ++ codes "\n"
text_of out_of_memory = codes "ERROR memory\n"

-- The work came to this status and line by some course, for its cause.
pub record IsWork (asked : Option Command) (old new : World) (status : Status) (text : List ℕ) : Type 0 where
  pub course : Course
  pub cause : Happens asked old new course
  pub status_is : status ≡ status_of course
  pub text_is : text ≡ text_of course

-- a fault of the output leaves want of memory as it is
abbrev pub after_fault : Status → Status
after_fault NoMemory = NoMemory
after_fault other = WriteFault

-- the status once the put has answered
abbrev pub status_after : Status → Result (Unit {0}) PutRefusal → Status
status_after status (Ok done) = status
status_after status (Err put.NoMemory) = NoMemory
status_after status (Err put.Failed) = after_fault status

-- This line was put, whole or after a refusal a prefix of it, and the call ended by the answer.
pub record IsWritten (old new : PortView) (status : Status) (text : List ℕ) (ended : Status) : Type 0 where
  pub answer : Result (Unit {0}) PutRefusal
  pub written : IsPut old new text answer
  pub status_is : ended ≡ status_after status answer

-- The call took some course, for its cause, and wrote the course's line; the files' contents are as before.
pub record IsRun (words : List (List ℕ)) (old new : World) (old_out new_out : PortView) (status : Status) : Type 0 where
  pub course : Course
  pub cause : Happens (command_of words) old new course
  pub written : IsWritten old_out new_out (status_of course) (text_of course) status
  pub files_same : new.files.contents ≡ old.files.contents
