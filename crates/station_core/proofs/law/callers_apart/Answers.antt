use Rattle.station_core.proofs.Callers.{answers_apart, rows_apart, rows_kept}
use Rattle.station_core.proofs.law.callers_apart.Goals as goal

pub returns-clause-answers : goal.returns-clause-answers
returns-clause-answers c = answers_apart

pub returns-clause-rows : goal.returns-clause-rows
returns-clause-rows c = rows_apart

pub returns-clause-kept : goal.returns-clause-kept
returns-clause-kept c = rows_kept
