use Rattle.station_tests.proofs.tests.replies_row_by_row.Given as goal

abbrev pub ghosts-rows_differ : goal.ghosts-rows_differ
ghosts-rows_differ g a = record { name = a.blank.name; parts = a.blank.parts }
