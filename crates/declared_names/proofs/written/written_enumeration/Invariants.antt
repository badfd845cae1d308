use Rattle.std.proofs.Common.{◌≡◌}
use Rattle.declared_names.specs.TypeValues as spec
use Rattle.declared_names.specs.Tables.{project_in}
use Rattle.declared_names.proofs.written.written_enumeration.Given as goal

abbrev pub invariant-loop-left : goal.invariant-loop-left
invariant-loop-left l =
    spec.written_enumeration (project_in l.project) l.fn.number
    ≡ spec.enumeration_within (project_in l.project) l.left l.number

abbrev pub decreases-loop-left : goal.decreases-loop-left
decreases-loop-left l = l.left
