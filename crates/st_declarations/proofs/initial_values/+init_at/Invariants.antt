use Rattle.st_declarations.proofs.initial_values.+init_at.Given as goal

abbrev pub decreases-init_at : goal.decreases-init_at
decreases-init_at l = l.nest
