use Rattle.link_faults.proofs.Least.{first_is_least, none_is_none, order_plays_no_part}
use Rattle.link_faults.proofs.law.first_fault_laws.Goals as goal

pub returns-clause-least : goal.returns-clause-least
returns-clause-least c = first_is_least

pub returns-clause-none : goal.returns-clause-none
returns-clause-none c = none_is_none

pub returns-clause-order : goal.returns-clause-order
returns-clause-order c = order_plays_no_part
