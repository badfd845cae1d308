use Rattle.std.proofs.Common.{length}
use Rattle.project_meanings.proofs.letters.+is_raised.Given as goal

abbrev pub decreases-is_raised : goal.decreases-is_raised
decreases-is_raised l = length l.text.now
