use Rattle.std.proofs.Common.{◌≡◌, ◌≤◌, drop, take, length}
use Rattle.project_keeper.specs.Projects.{State, after_all, state_at}
use Rattle.project_keeper.proofs.state.state_at.Given as goal

abbrev pub invariant-loop-edit : goal.invariant-loop-edit
invariant-loop-edit l =
    (after_all (record { files = l.files; waivers = l.waivers }) (drop l.edit-index (take l.revision l.edits)) ≡ state_at l.edits l.revision)
    × (length l.files ≤ l.edit-index)
