-- What a keeper's calls do to its count of faults, and what they ask for. Source: this profile.
use Rattle.std.specs.Prelude.{◌≡◌, ◌≤◌, ◌<◌, ℕ, Bool, true, false, ◌&&◌, List, [], ◌∷◌, length, nat_le, bytes_eq, if◌then◌else◌, IsSomeAnd}
use Rattle.std.specs.List.{AllByRecursion, list_all}
use Rattle.station_ports.specs.Calls.{Rose}
use Rattle.station_ports.specs.Lists.{AreApart}
use Rattle.project_keeper.specs.declared.edit.Edit.{Edit}
use Rattle.project_keeper.specs.declared.rows.ProjectRow.{ProjectRow}
use Rattle.project_keeper.specs.declared.rows.CallerRows.{CallerRows}
use Rattle.project_keeper.specs.Names.{is_name}
use Rattle.project_keeper.specs.Projects.{Rows, has_project, edits_of, is_named, is_lawful}

-- The count of faults rises where the call failed, and nowhere else.
pub record IsFaultRisen (before now : ℕ) (Failed : Type 0) : Type 0 where
  pub later : before ≤ now
  pub failed : Failed → Rose before now
  pub otherwise : (Failed → ⊥) → now ≡ before

-- the most edits of a project
abbrev pub max_edits : ℕ
max_edits = 10000

-- the caller has no such project
abbrev pub IsAbsent : List ℕ → List ProjectRow → Type 0
IsAbsent name own = has_project name own ≡ false

-- the caller has the project, and there is room for one edit more
abbrev pub HasRoom : List ℕ → List ProjectRow → Type 0
HasRoom name own = IsSomeAnd (edits_of name own) (λ edits. length edits < max_edits)

-- lawful edits, at most as many as a project may have
abbrev pub are_lawful_edits : List Edit → Bool
are_lawful_edits edits = list_all is_lawful edits && nat_le (length edits) max_edits

-- ---- the rows of a keeper in memory

abbrev pub is_lawful_project : ProjectRow → Bool
is_lawful_project project = is_name project.name && are_lawful_edits project.edits

abbrev pub is_lawful_caller : CallerRows → Bool
is_lawful_caller caller = is_name caller.name && list_all is_lawful_project caller.projects

-- names and edits are lawful
abbrev pub are_lawful : List CallerRows → Bool
are_lawful callers = list_all is_lawful_caller callers

abbrev pub is_caller : List ℕ → CallerRows → Bool
is_caller name caller = bytes_eq caller.name name

-- no two callers have one name, and no two projects of a caller
pub record NamesDiffer (callers : List CallerRows) : Type 0 where
  pub callers_apart : AreApart (λ (one : CallerRows). is_caller one.name) callers
  pub projects_apart : AllByRecursion (λ (caller : CallerRows). AreApart (λ (one : ProjectRow). is_named one.name) caller.projects) callers

-- the projects of the caller of that name
abbrev pub own_of : List CallerRows → Rows
own_of [] name = []
own_of (caller ∷ callers) name = if is_caller name caller then caller.projects else own_of callers name
