use Rattle.station_tests.proofs.tests.limits_of_projects_and_texts.Given as goal

abbrev pub ghosts-holds_limits : goal.ghosts-holds_limits
ghosts-holds_limits g a = record { name = a.blank.name; parts = a.blank.parts }
