-- How the code decides on a request, as steps on the way to the table's answer.
use Rattle.std.specs.Prelude.{◌≡◌, ◌+◌, ℕ, List, Some, None, nat_lt, option_map, if◌then◌else◌}
use Rattle.project_keeper.specs.declared.edit.Edit.{Edit}
use Rattle.project_keeper.specs.declared.rows.ProjectRow.{ProjectRow}
use Rattle.project_keeper.specs.declared.request.Request.{Request}
use Rattle.project_keeper.specs.declared.request.StationCode.TheVariants.{StoreFull}
use Rattle.project_keeper.specs.Projects.{stored, cost_of}
use Rattle.station_core.specs.declared.edits.Decision.{Decision}
use Rattle.station_core.specs.declared.edits.Decision.TheVariants.{Refused, Appends, Reads}
use Rattle.station_core.specs.Answer.{Outcome, refused, accepted, max_stored, first_cause, edits_causes, edit_of}

-- an edit that the project's edits don't refuse
abbrev pub added : List ProjectRow → List Edit → List ℕ → Edit → Outcome
added own edits project edit = if nat_lt max_stored (stored own + cost_of edit) then refused edits StoreFull else accepted edits project edit

-- what the project's edits say of a request
abbrev pub IsDecision : List Edit → Request → Decision → Type 0
IsDecision edits request (Refused code) = first_cause (edits_causes edits request) ≡ Some code
IsDecision edits request (Appends edit) = (first_cause (edits_causes edits request) ≡ None) × (option_map (λ asked. asked.1) (edit_of request) ≡ Some edit)
IsDecision edits request Reads = (first_cause (edits_causes edits request) ≡ None) × (option_map (λ asked. asked.1) (edit_of request) ≡ None)
