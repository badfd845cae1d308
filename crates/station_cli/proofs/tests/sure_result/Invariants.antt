use Rattle.station_cli.proofs.tests.sure_result.Given as goal

abbrev pub ghosts-sure : goal.ghosts-sure
ghosts-sure a = record { name = a.blank.name; parts = a.blank.parts }
