use Rattle.std.proofs.Common.{length}
use Rattle.iec_tables.proofs.words.+compare_raised.Given as goal

abbrev pub decreases-compare_raised : goal.decreases-compare_raised
decreases-compare_raised l = length l.text.now
