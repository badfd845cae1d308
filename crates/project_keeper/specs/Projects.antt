-- Projects of callers: what their edits leave, what edits cost, and how rows change. Source: this profile.
use Rattle.std.specs.Prelude.{ℕ, ◌+◌, Bool, List, [], ◌∷◌, ◌++◌, Option, Some, None, length, take, map, bytes_eq, option_map, if◌then◌else◌}
use Rattle.std.specs.List.{find, list_any, sum_by}
use Rattle.station_ports.specs.declared.lists.FileEntry.{FileEntry}
use Rattle.station_ports.specs.declared.lists.Waiver.{Waiver}
use Rattle.station_ports.specs.Lists.{with_file, without_file, with_waiver, without_waiver}
use Rattle.project_keeper.specs.declared.edit.Edit.{Edit}
use Rattle.project_keeper.specs.declared.edit.Edit.TheVariants.{PutFile, DropFile, Waive, Unwaive}
use Rattle.project_keeper.specs.declared.rows.ProjectRow.{ProjectRow}
use Rattle.project_keeper.specs.Names.{is_name, is_lawful_waiver, is_lawful_key}

-- ---- edits

abbrev pub is_lawful : Edit → Bool
is_lawful (PutFile name text) = is_name name
is_lawful (DropFile name) = is_name name
is_lawful (Waive waiver) = is_lawful_waiver waiver
is_lawful (Unwaive key) = is_lawful_key key

-- 64, and the bytes of its text
abbrev pub cost_of : Edit → ℕ
cost_of (PutFile name text) = 64 + length text
cost_of (DropFile name) = 64
cost_of (Waive waiver) = 64
cost_of (Unwaive key) = 64

-- the files of a project, and the waivers in force
pub record State : Type 0 where
  pub files : List FileEntry
  pub waivers : List Waiver

abbrev pub no_state : State
no_state = record { files = []; waivers = [] }

abbrev pub after : State → Edit → State
after state (PutFile name text) = record { files = with_file name text state.files; waivers = state.waivers }
after state (DropFile name) = record { files = without_file name state.files; waivers = state.waivers }
after state (Waive waiver) = record { files = state.files; waivers = with_waiver waiver state.waivers }
after state (Unwaive key) = record { files = state.files; waivers = without_waiver key state.waivers }

abbrev pub after_all : State → List Edit → State
after_all state [] = state
after_all state (edit ∷ edits) = after_all (after state edit) edits

-- what these edits leave
abbrev pub state_of : List Edit → State
state_of edits = after_all no_state edits

-- the state at a revision: what the first so many edits leave
abbrev pub state_at : List Edit → ℕ → State
state_at edits revision = state_of (take revision edits)

-- ---- the rows of one caller: projects in order of creation, each a name and its edits

abbrev pub is_named : List ℕ → ProjectRow → Bool
is_named name project = bytes_eq name project.name

abbrev pub has_project : List ℕ → List ProjectRow → Bool
has_project name own = list_any (is_named name) own

-- the edits of the project of that name
abbrev pub edits_of : List ℕ → List ProjectRow → Option (List Edit)
edits_of name own = option_map (λ project. project.edits) (find (is_named name) own)

-- the sum of the costs of all edits
abbrev pub stored : List ProjectRow → ℕ
stored own = sum_by (λ project. sum_by cost_of project.edits) own

abbrev pub with_project : List ℕ → List ProjectRow → List ProjectRow
with_project name own = own ++ (record { name = name; edits = [] }) ∷ []

-- with one edit more in the project of that name
abbrev pub with_edit : List ℕ → Edit → List ProjectRow → List ProjectRow
with_edit name edit [] = []
with_edit name edit (project ∷ own) =
    if is_named name project
    then (record { name = project.name; edits = project.edits ++ edit ∷ [] }) ∷ own
    else project ∷ with_edit name edit own

-- ---- the rows of all callers

abbrev pub Rows : Type 0
Rows = List ℕ → List ProjectRow

-- the rows in which those of one caller are changed
abbrev pub changed_for : List ℕ → (List ProjectRow → List ProjectRow) → Rows → Rows
changed_for caller change rows = λ other. if bytes_eq caller other then change (rows other) else rows other
