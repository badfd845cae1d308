-- What determines a report. Source: this profile. The code makes a report step by step and has no part for this.
use Rattle.std.specs.Prelude.{◌≡◌, ℕ, List, Option, Some, true}
use Rattle.finding_spans.specs.declared.report.Report.{Report}
use Rattle.station_cli.specs.Report.{IsReport}
use Rattle.station_cli.specs.Words.{Command}
use Rattle.station_cli.specs.Run.{World, Course, Happens, is_settled}

-- A file of that name and text has one report at most.
abbrev pub OneReport : Type 0
OneReport = (name text : List ℕ) (made other : Report) → IsReport name text made → IsReport name text other → made ≡ other

-- Where the files tell, the words and the contents determine the course of a call that comes to its end, and so its status and its bytes.
abbrev pub OneCourse : Type 0
OneCourse =
    (asked : Option Command) (old new other : World) (contents : List ℕ → Option (List ℕ)) (course twin : Course) →
    old.files.contents ≡ Some contents → Happens asked old new course → Happens asked old other twin →
    is_settled course ≡ true → is_settled twin ≡ true → course ≡ twin
