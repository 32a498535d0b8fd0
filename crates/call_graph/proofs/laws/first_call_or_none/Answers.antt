use Rattle.call_graph.proofs.SomeCall.{first_in_cycle, first_deep}
use Rattle.call_graph.proofs.laws.first_call_or_none.Goals as goal

pub returns-clause-cycle : goal.returns-clause-cycle
returns-clause-cycle c = first_in_cycle

pub returns-clause-deep : goal.returns-clause-deep
returns-clause-deep c = first_deep
