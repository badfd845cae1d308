-- The numbers and names of the station's refusals. Source: this profile.
use Rattle.std.specs.Prelude.{ℕ, List, codes}
use Rattle.project_keeper.specs.declared.request.StationCode.{StationCode}
use Rattle.project_keeper.specs.declared.request.StationCode.TheVariants.{Unauthorised, NoSuchProject, ProjectExists, Stale, NoSuchFile, TextTooLong, NotUtf8, FilesFull, RevisionsFull, StoreFull, ProjectsFull, BadName, BadWaiver, KeeperFailed, NoMemory, NoSuchRevision}

abbrev pub number_of : StationCode → ℕ
number_of Unauthorised = 1
number_of NoSuchProject = 2
number_of ProjectExists = 3
number_of Stale = 4
number_of NoSuchFile = 5
number_of TextTooLong = 6
number_of NotUtf8 = 7
number_of FilesFull = 8
number_of RevisionsFull = 9
number_of StoreFull = 10
number_of ProjectsFull = 11
number_of BadName = 12
number_of BadWaiver = 13
number_of KeeperFailed = 14
number_of NoMemory = 15
number_of NoSuchRevision = 16

abbrev pub name_of : StationCode → List ℕ
name_of Unauthorised = codes "Unauthorised"
name_of NoSuchProject = codes "NoSuchProject"
name_of ProjectExists = codes "ProjectExists"
name_of Stale = codes "Stale"
name_of NoSuchFile = codes "NoSuchFile"
name_of TextTooLong = codes "TextTooLong"
name_of NotUtf8 = codes "NotUtf8"
name_of FilesFull = codes "FilesFull"
name_of RevisionsFull = codes "RevisionsFull"
name_of StoreFull = codes "StoreFull"
name_of ProjectsFull = codes "ProjectsFull"
name_of BadName = codes "BadName"
name_of BadWaiver = codes "BadWaiver"
name_of KeeperFailed = codes "KeeperFailed"
name_of NoMemory = codes "NoMemory"
name_of NoSuchRevision = codes "NoSuchRevision"
