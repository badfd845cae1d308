use Rattle.std.proofs.Common.{◌≡◌, drop}
use Rattle.declared_names.specs.Tables.{project_in}
use Rattle.declared_project.specs.Computing as spec
use Rattle.declared_project.specs.Tables.{computed_in}
use Rattle.declared_project.proofs.computing.compute.Given as goal

abbrev pub invariant-loop-number : goal.invariant-loop-number
invariant-loop-number l =
    let p = project_in l.project in
    spec.computed_from p (spec.nothing_yet p) l.order
    ≡ spec.computed_from p (computed_in l.computed) (drop l.number-index l.order)
