use Rattle.st_lexer.proofs.times.+parts_at.Given as goal

abbrev pub decreases-parts_at : goal.decreases-parts_at
decreases-parts_at l = l.above
