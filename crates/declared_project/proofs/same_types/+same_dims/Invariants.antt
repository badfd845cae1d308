use Rattle.std.proofs.Common.{length}
use Rattle.declared_project.proofs.same_types.+same_dims.Given as goal

abbrev pub decreases-same_dims : goal.decreases-same_dims
decreases-same_dims l = length l.a.now
