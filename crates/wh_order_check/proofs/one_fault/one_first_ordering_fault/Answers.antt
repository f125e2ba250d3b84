use Rattle.wh_order_check.proofs.OneOrdering.{ordering_fault_one, ordering_or_fault}
use Rattle.wh_order_check.proofs.one_fault.one_first_ordering_fault.Goals as goal

pub returns-clause-one : goal.returns-clause-one
returns-clause-one c T D E f g first other = ordering_fault_one T D E f g first other

pub returns-clause-none : goal.returns-clause-none
returns-clause-none c T D E f is first = ordering_or_fault T D E is f first
