use Rattle.st_lexer.proofs.CutLaws.{some_cut, only_cut, only_fault, not_cut_and_fault}
use Rattle.st_lexer.proofs.Places.{tokens_in, fault_in}
use Rattle.st_lexer.proofs.cut.cut_laws.Goals as goal

pub returns-clause-some : goal.returns-clause-some
returns-clause-some c = some_cut

pub returns-clause-one_cut : goal.returns-clause-one_cut
returns-clause-one_cut c = only_cut

pub returns-clause-one_fault : goal.returns-clause-one_fault
returns-clause-one_fault c = only_fault

pub returns-clause-not_both : goal.returns-clause-not_both
returns-clause-not_both c = not_cut_and_fault

pub returns-clause-tokens_in : goal.returns-clause-tokens_in
returns-clause-tokens_in c = tokens_in

pub returns-clause-fault_in : goal.returns-clause-fault_in
returns-clause-fault_in c = fault_in
