use Rattle.st_lexer.proofs.times.+read_parts.Given as goal

abbrev pub decreases-read_parts : goal.decreases-read_parts
decreases-read_parts l = l.above
