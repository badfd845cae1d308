use Rattle.std.proofs.Common.{length}
use Rattle.expression_types.proofs.shared.+all_go_to.Given as goal

abbrev pub decreases-all_go_to : goal.decreases-all_go_to
decreases-all_go_to l = length l.types.now
