-- The abstract station: what it answers to a caller's request, and how that caller's own rows change. Source: this profile. The answer is
-- a function of the settings, the caller's name, its own rows and the request alone. The code reads a keeper and keeps a cache.
use Rattle.std.specs.Prelude.{ℕ, ◌+◌, Bool, false, ◌&&◌, ◌||◌, not, List, [], ◌∷◌, ◌++◌, Option, Some, None, length, map, nat_eq, nat_le, nat_lt, bytes_eq, unwrap_or, is_some, option_map, if◌then◌else◌}
use Rattle.std.specs.List.{list_any, sum_by, find}
use Rattle.station_ports.specs.declared.lists.FileEntry.{FileEntry}
use Rattle.station_ports.specs.declared.lists.Waiver.{Waiver}
use Rattle.station_ports.specs.Lists.{has_name, is_file_in, with_file, is_waived_in}
use Rattle.st_tree.specs.declared.settings.Settings.{Settings}
use Rattle.project_keeper.specs.declared.edit.Edit.{Edit}
use Rattle.project_keeper.specs.declared.rows.ProjectRow.{ProjectRow}
use Rattle.project_keeper.specs.declared.request.Request.{Request}
use Rattle.project_keeper.specs.declared.request.Request.TheVariants.{ListProjects, Create, Show, ReadFile, PutFile, DropFile, Waive, Unwaive, Report}
use Rattle.project_keeper.specs.declared.request.Reply.{Reply}
use Rattle.project_keeper.specs.declared.request.StationCode.{StationCode}
use Rattle.project_keeper.specs.declared.request.StationCode.TheVariants.{Unauthorised, NoSuchProject, ProjectExists, Stale, NoSuchFile, TextTooLong, NotUtf8, FilesFull, RevisionsFull, StoreFull, ProjectsFull, BadName, BadWaiver, NoSuchRevision}
use Rattle.project_keeper.specs.Names.{is_name, is_valid, is_utf8, raised_key, raised_waiver}
use Rattle.project_keeper.specs.Projects.{State, state_of, state_at, cost_of, has_project, edits_of, stored, with_project, with_edit, Rows, changed_for}

-- ---- what a request names

-- the project that has to be there: that of each request but ListProjects and Create
abbrev pub project_of : Request → Option (List ℕ)
project_of ListProjects = None
project_of (Create project) = None
project_of (Show project) = Some project
project_of (ReadFile project file) = Some project
project_of (PutFile project base file text) = Some project
project_of (DropFile project base file) = Some project
project_of (Waive project base waiver) = Some project
project_of (Unwaive project base key) = Some project
project_of (Report project revision) = Some project

-- the edit that a request asks for, and the revision that it is meant for
abbrev pub edit_of : Request → Option (ℕ × Edit)
edit_of (PutFile project base file text) = Some (base, Edit.PutFile file text)
edit_of (DropFile project base file) = Some (base, Edit.DropFile file)
edit_of (Waive project base waiver) = Some (base, Edit.Waive (raised_waiver waiver))
edit_of (Unwaive project base key) = Some (base, Edit.Unwaive (raised_key key))
edit_of _ = None

-- the edits of a project, none where it isn't there
abbrev pub own_edits : List ProjectRow → List ℕ → List Edit
own_edits own project = unwrap_or (edits_of project own) []

-- those of the project that has to be there
abbrev pub edits_at : List ProjectRow → Option (List ℕ) → List Edit
edits_at own None = []
edits_at own (Some project) = own_edits own project

-- the bytes of all texts
abbrev pub bytes_of : List FileEntry → ℕ
bytes_of files = sum_by (λ file. length file.text) files

abbrev pub text_of : List ℕ → List FileEntry → Option (List ℕ)
text_of name files = option_map (λ file. file.text) (find (has_name name) files)

-- ---- limits

abbrev pub max_projects : ℕ
max_projects = 200

abbrev pub max_files : ℕ
max_files = 512

abbrev pub max_revision : ℕ
max_revision = 10000

-- of one text, of the files of a project, and of a caller's stored bytes
abbrev pub max_text : ℕ
max_text = 1048576

abbrev pub max_bytes : ℕ
max_bytes = 8388608

abbrev pub max_stored : ℕ
max_stored = 33554432

-- ---- causes of refusals: each test is for some requests, and false for all others

-- the caller isn't in the settings
abbrev pub is_unknown : Settings → List ℕ → Bool
is_unknown settings caller = not (list_any (λ known. bytes_eq known.name caller) settings.callers)

-- a project or file name of the request breaks the rule of names
abbrev pub has_bad_name : Request → Bool
has_bad_name ListProjects = false
has_bad_name (Create project) = not (is_name project)
has_bad_name (Show project) = not (is_name project)
has_bad_name (ReadFile project file) = not (is_name project && is_name file)
has_bad_name (PutFile project base file text) = not (is_name project && is_name file)
has_bad_name (DropFile project base file) = not (is_name project && is_name file)
has_bad_name (Waive project base waiver) = not (is_name project)
has_bad_name (Unwaive project base key) = not (is_name project)
has_bad_name (Report project revision) = not (is_name project)

-- the project that has to be there isn't
abbrev pub is_missing : List ProjectRow → Option (List ℕ) → Bool
is_missing own None = false
is_missing own (Some project) = not (is_some (edits_of project own))

-- a project of that name is there already
abbrev pub exists : List ProjectRow → Request → Bool
exists own (Create project) = has_project project own
exists own _ = false

-- there is no room for a further project
abbrev pub is_full_of_projects : List ProjectRow → Request → Bool
is_full_of_projects own (Create project) = nat_le max_projects (length own)
is_full_of_projects own _ = false

-- the report of a revision above the current one, which is how many edits there are
abbrev pub is_ahead : List Edit → Request → Bool
is_ahead edits (Report project (Some revision)) = nat_lt (length edits) revision
is_ahead edits _ = false

-- the edit is meant for another revision than the current one
abbrev pub is_stale : List Edit → Option (ℕ × Edit) → Bool
is_stale edits None = false
is_stale edits (Some edit) = not (nat_eq edit.0 (length edits))

-- a waiver that isn't valid, or the key of none that is in force
abbrev pub is_bad_waiver : List Edit → Request → Bool
is_bad_waiver edits (Waive project base waiver) = not (is_valid waiver)
is_bad_waiver edits (Unwaive project base key) = not (is_waived_in (raised_key key) (state_of edits).waivers)
is_bad_waiver edits _ = false

-- a file to be read or dropped that isn't there
abbrev pub lacks_file : List Edit → Request → Bool
lacks_file edits (ReadFile project file) = not (is_file_in file (state_of edits).files)
lacks_file edits (DropFile project base file) = not (is_file_in file (state_of edits).files)
lacks_file edits _ = false

abbrev pub is_no_text : Request → Bool
is_no_text (PutFile project base file text) = not (is_utf8 text)
is_no_text _ = false

-- the text is too long, or the project's files would be
abbrev pub is_too_long : List Edit → Request → Bool
is_too_long edits (PutFile project base file text) =
    nat_lt max_text (length text) || nat_lt max_bytes (bytes_of (with_file file text (state_of edits).files))
is_too_long edits _ = false

-- there is no room for a further file
abbrev pub is_full_of_files : List Edit → Request → Bool
is_full_of_files edits (PutFile project base file text) =
    not (is_file_in file (state_of edits).files) && nat_le max_files (length (state_of edits).files)
is_full_of_files edits _ = false

-- there is no room for a further edit of the project
abbrev pub is_full_of_edits : List Edit → Option (ℕ × Edit) → Bool
is_full_of_edits edits None = false
is_full_of_edits edits (Some edit) = nat_le max_revision (length edits)

-- the edit costs more than what is left
abbrev pub is_full_store : List ProjectRow → Option (ℕ × Edit) → Bool
is_full_store own None = false
is_full_store own (Some edit) = nat_lt max_stored (stored own + cost_of edit.1)

-- ---- the table: the first of these that holds, from top to bottom, is the refusal

-- what the edits of the project decide
abbrev pub edits_causes : List Edit → Request → List (Bool × StationCode)
edits_causes edits request =
    (is_ahead edits request, NoSuchRevision)
    ∷ (is_stale edits (edit_of request), Stale)
    ∷ (is_bad_waiver edits request, BadWaiver)
    ∷ (lacks_file edits request, NoSuchFile)
    ∷ (is_no_text request, NotUtf8)
    ∷ (is_too_long edits request, TextTooLong)
    ∷ (is_full_of_files edits request, FilesFull)
    ∷ (is_full_of_edits edits (edit_of request), RevisionsFull)
    ∷ []

abbrev pub own_causes : List ProjectRow → Request → List (Bool × StationCode)
own_causes own request =
    (is_missing own (project_of request), NoSuchProject)
    ∷ (exists own request, ProjectExists)
    ∷ (is_full_of_projects own request, ProjectsFull)
    ∷ edits_causes (edits_at own (project_of request)) request
    ++ (is_full_store own (edit_of request), StoreFull)
    ∷ []

abbrev pub causes : Settings → List ℕ → List ProjectRow → Request → List (Bool × StationCode)
causes settings caller own request =
    (is_unknown settings caller, Unauthorised)
    ∷ (has_bad_name request, BadName)
    ∷ own_causes own request

abbrev pub first_cause : List (Bool × StationCode) → Option StationCode
first_cause [] = None
first_cause (row ∷ rows) = if row.0 then Some row.1 else first_cause rows

-- ---- answers

-- a reply, or the report on these files and waivers
pub data Answer : Type 0 where
  Says : Reply → Answer
  Reports : List FileEntry → List Waiver → Answer

-- how the caller's rows change
pub data Change : Type 0 where
  Nothing : Change
  Adds : List ℕ → Change
  Appends : List ℕ → Edit → Change

pub record Outcome : Type 0 where
  pub answer : Answer
  pub change : Change

-- the current revision, which is how many edits there are, is given with Stale and NoSuchRevision
abbrev pub given_with : StationCode → ℕ → Option ℕ
given_with Stale revision = Some revision
given_with NoSuchRevision revision = Some revision
given_with _ revision = None

abbrev pub refused : List Edit → StationCode → Outcome
refused edits code = record { answer = Says (Reply.Refused (record { code = code; current = given_with code (length edits) })); change = Nothing }

-- the edit is the project's last one; the revision is the new one
abbrev pub accepted : List Edit → List ℕ → Edit → Outcome
accepted edits project edit = record { answer = Says (Reply.Accepted (length edits + 1)); change = Appends project edit }

abbrev pub said : Reply → Outcome
said reply = record { answer = Says reply; change = Nothing }

abbrev pub reported : State → Outcome
reported state = record { answer = Reports state.files state.waivers; change = Nothing }

-- what a request does that isn't refused, where these are the edits of the project that it is on
abbrev pub done : List ProjectRow → List Edit → Request → Outcome
done own edits ListProjects = said (Reply.Projects (map (λ project. project.name) own))
done own edits (Create project) = record { answer = Says Reply.Created; change = Adds project }
done own edits (Show project) = said (Reply.Shown (map (λ file. file.name) (state_of edits).files) (length edits))
done own edits (ReadFile project file) = said (Reply.Text (unwrap_or (text_of file (state_of edits).files) []))
done own edits (PutFile project base file text) = accepted edits project (Edit.PutFile file text)
done own edits (DropFile project base file) = accepted edits project (Edit.DropFile file)
done own edits (Waive project base waiver) = accepted edits project (Edit.Waive (raised_waiver waiver))
done own edits (Unwaive project base key) = accepted edits project (Edit.Unwaive (raised_key key))
done own edits (Report project None) = reported (state_of edits)
done own edits (Report project (Some revision)) = reported (state_at edits revision)

abbrev pub settled : List ProjectRow → List Edit → Request → Option StationCode → Outcome
settled own edits request None = done own edits request
settled own edits request (Some code) = refused edits code

-- what the rows of a caller say of a request of lawful names
abbrev pub own_outcome : List ProjectRow → Request → Outcome
own_outcome own request = settled own (edits_at own (project_of request)) request (first_cause (own_causes own request))

-- The answer to a request, and how the caller's own rows change.
abbrev pub outcome : Settings → List ℕ → List ProjectRow → Request → Outcome
outcome settings caller own request = settled own (edits_at own (project_of request)) request (first_cause (causes settings caller own request))

-- the caller's own rows after a change, and those of all callers
abbrev pub own_after : Change → List ProjectRow → List ProjectRow
own_after Nothing own = own
own_after (Adds project) own = with_project project own
own_after (Appends project edit) own = with_edit project edit own

abbrev pub rows_after : List ℕ → Change → Rows → Rows
rows_after caller Nothing rows = rows
rows_after caller (Adds project) rows = changed_for caller (with_project project) rows
rows_after caller (Appends project edit) rows = changed_for caller (with_edit project edit) rows
