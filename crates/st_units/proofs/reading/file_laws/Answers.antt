use Rattle.st_units.proofs.FileAnswers.{some_file, one_file, one_file_fault, none_of_both, fault_in}
use Rattle.st_units.proofs.reading.file_laws.Goals as goal

pub returns-clause-some_file : goal.returns-clause-some_file
returns-clause-some_file c = some_file

pub returns-clause-one_file : goal.returns-clause-one_file
returns-clause-one_file c = one_file

pub returns-clause-one_fault : goal.returns-clause-one_fault
returns-clause-one_fault c = one_file_fault

pub returns-clause-not_both : goal.returns-clause-not_both
returns-clause-not_both c = none_of_both

pub returns-clause-fault_in : goal.returns-clause-fault_in
returns-clause-fault_in c = fault_in
