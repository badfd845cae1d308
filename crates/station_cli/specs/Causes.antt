-- What a reader of the program's output and status may rely on. Source: this profile. These are consequences of the course that a call
-- takes; the code has no part for them.
use Rattle.std.specs.Prelude.{◌≡◌, ◌⊎◌, ◌<◌, ℕ, List, Option, Some, length, true}
use Rattle.std.specs.Io.KnownBytes.{Appends}
use Rattle.station_ports.specs.Calls.{IsContent, IsTooLong, Rose}
use Rattle.finding_spans.specs.declared.report.Report.{Report}
use Rattle.station_ports.specs.Views.{PortView}
use Rattle.station_cli.specs.Words.{check, command_of}
use Rattle.station_cli.specs.Report.{IsReport}
use Rattle.station_cli.specs.Run.{World, Course, Happens, max_file, verdict_status, status_of, text_of, is_settled}
use Rattle.station_cli.specs.declared.status.Status.{Status}
use Rattle.station_cli.specs.declared.status.Status.TheVariants.{NoMemory, WriteFault, ReadFault}

-- the words name a file that is above the limit, where the files tell
pub record IsAboveLimit (words : List (List ℕ)) (old : World) : Type 0 where
  pub name : List ℕ
  pub asked : command_of words ≡ Some (check name)
  pub content : IsTooLong old.files name max_file

-- the words name a file, the files tell its content, and that is above the limit
pub record IsToldAbove (words : List (List ℕ)) (old : World) : Type 0 where
  pub name : List ℕ
  pub content : List ℕ
  pub contents : List ℕ → Option (List ℕ)
  pub asked : command_of words ≡ Some (check name)
  pub told : old.files.contents ≡ Some contents
  pub there : contents name ≡ Some content
  pub above : max_file < length content

-- the words name a file whose text, its content where the files tell, is reported with a verdict of this status
pub record IsReportedAs (words : List (List ℕ)) (old : World) (status : Status) : Type 0 where
  pub name : List ℕ
  pub text : List ℕ
  pub made : Report
  pub asked : command_of words ≡ Some (check name)
  pub content : IsContent old.files name max_file text
  pub report : IsReport name text made
  pub status_is : verdict_status made.verdict ≡ status

-- the same, where the files tell the text
pub record IsToldReported (words : List (List ℕ)) (old : World) (status : Status) : Type 0 where
  pub reported : IsReportedAs words old status
  pub contents : List ℕ → Option (List ℕ)
  pub told : old.files.contents ≡ Some contents

-- This status is answered, or the put of its line failed, or there was no memory.
abbrev pub Ends : Status → PortView → PortView → Status → Type 0
Ends status old_out new_out ended =
    (ended ≡ status) ⊎ (((ended ≡ WriteFault) × Rose old_out.faults new_out.faults) ⊎ (ended ≡ NoMemory))

-- How a file is answered: with this status, unless reading it failed.
abbrev pub EndsRead : World → World → PortView → PortView → Status → Status → Type 0
EndsRead old new old_out new_out status ended =
    Ends status old_out new_out ended ⊎ (Rose old.files.faults new.files.faults × Ends ReadFault old_out new_out ended)

-- no count rose in the call
pub record IsCalm (old new : World) (old_out new_out : PortView) : Type 0 where
  pub files : Rose old.files.faults new.files.faults → ⊥
  pub out : Rose old_out.faults new_out.faults → ⊥

-- a course that came to its end, its status and all its bytes
pub record IsWhole (words : List (List ℕ)) (old new : World) (old_out new_out : PortView) (status : Status) : Type 0 where
  pub course : Course
  pub cause : Happens (command_of words) old new course
  pub settled : is_settled course ≡ true
  pub status_is : status ≡ status_of course
  pub all_put : Appends old_out.sent new_out.sent (text_of course)

-- Where no count rose, the call ends with the status of a course that came to its end and has put all its bytes, or there was no
-- memory.
abbrev pub Completes : List (List ℕ) → World → World → PortView → PortView → Status → Type 0
Completes words old new old_out new_out status =
    IsCalm old new old_out new_out → (status ≡ NoMemory) ⊎ IsWhole words old new old_out new_out status
