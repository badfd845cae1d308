use Rattle.station_cli.proofs.grammar_tests.parsed_text.Given as goal

abbrev pub ghosts-parsed : goal.ghosts-parsed
ghosts-parsed a = record { name = a.blank.name; parts = a.blank.parts }
