use Rattle.std.proofs.Common.{◌+◌, ◌*◌}
use Rattle.declared_project.proofs.same_types.+same.Given as goal

abbrev pub decreases-same_within : goal.decreases-same_within
decreases-same_within l = l.left * 2

abbrev pub decreases-same_elements : goal.decreases-same_elements
decreases-same_elements l = l.left * 2 + 1
