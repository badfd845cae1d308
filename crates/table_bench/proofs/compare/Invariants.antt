use Rattle.table_bench.proofs.compare.Given as goal

abbrev pub ghosts-by_worklist : goal.ghosts-by_worklist
ghosts-by_worklist a = record { name = a.blank.name; parts = a.blank.parts }
