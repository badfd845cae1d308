use Rattle.std.proofs.Common.{length}
use Rattle.expression_types.proofs.shared.+are_loose.Given as goal

abbrev pub decreases-are_loose : goal.decreases-are_loose
decreases-are_loose l = length l.types.now
