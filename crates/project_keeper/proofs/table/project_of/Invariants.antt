use Rattle.std.proofs.Common.{◌≡◌, drop}
use Rattle.project_keeper.specs.Projects.{edits_of}
use Rattle.project_keeper.proofs.table.project_of.Given as goal

abbrev pub invariant-loop-row : goal.invariant-loop-row
invariant-loop-row l = edits_of l.project l.projects ≡ edits_of l.project (drop l.row-index l.projects)
