use Rattle.st_units.proofs.TextLaws.{some_tree_or_fault, one_tree, one_text_fault, no_tree_and_fault}
use Rattle.st_units.proofs.source_file.text_laws.Goals as goal

pub returns-clause-some : goal.returns-clause-some
returns-clause-some c = some_tree_or_fault c.cut_laws.ensures.some

pub returns-clause-one_tree : goal.returns-clause-one_tree
returns-clause-one_tree c = one_tree c.cut_laws.ensures.one_cut

pub returns-clause-one_fault : goal.returns-clause-one_fault
returns-clause-one_fault c =
    one_text_fault c.cut_laws.ensures.one_cut c.cut_laws.ensures.one_fault
    c.cut_laws.ensures.not_both

pub returns-clause-not_both : goal.returns-clause-not_both
returns-clause-not_both c = no_tree_and_fault c.cut_laws.ensures.one_cut c.cut_laws.ensures.not_both
