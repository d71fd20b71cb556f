use Rattle.stack_order.proofs.Theorem.{demand_3, demand_3_as_demanded}
use Rattle.stack_order.proofs.answers_as_a_stack.Goals as goal

pub returns-clause-winning : goal.returns-clause-winning
returns-clause-winning c = demand_3

pub returns-clause-as_demanded : goal.returns-clause-as_demanded
returns-clause-as_demanded c = demand_3_as_demanded
