use Rattle.std.proofs.Common.{◌≡◌, ◌≤◌, ◌+◌, ◌-◌, ◌^◌, ◌++◌, drop, length, map}
use Rattle.std.specs.Prelude.{min}
use Rattle.project_keeper.proofs.table.project_names.Given as goal

abbrev pub invariant-loop-project : goal.invariant-loop-project
invariant-loop-project l = l.names ++ map (λ project. project.name) (drop l.project-index l.projects) ≡ map (λ project. project.name) l.projects
