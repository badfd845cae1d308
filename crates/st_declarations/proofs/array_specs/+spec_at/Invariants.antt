use Rattle.st_declarations.proofs.array_specs.+spec_at.Given as goal

abbrev pub decreases-spec_at : goal.decreases-spec_at
decreases-spec_at l = l.nest
