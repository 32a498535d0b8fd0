use Rattle.sequence_rules.proofs.Rows.{divides_is, half_made_is, loops_is, loops_until_is, orders_is, calls_b_is, writes_is, halts_are}
use Rattle.sequence_rules.proofs.laws.worked_rows.Goals as goal

pub returns-clause-divides : goal.returns-clause-divides
returns-clause-divides c = λ w. divides_is w

pub returns-clause-half_made : goal.returns-clause-half_made
returns-clause-half_made c = λ w. half_made_is w

pub returns-clause-loops : goal.returns-clause-loops
returns-clause-loops c = λ w. loops_is w

pub returns-clause-calls : goal.returns-clause-calls
returns-clause-calls c = λ w. calls_b_is w

pub returns-clause-writes : goal.returns-clause-writes
returns-clause-writes c = λ w. writes_is w

pub returns-clause-loops_until : goal.returns-clause-loops_until
returns-clause-loops_until c = λ w. loops_until_is w

pub returns-clause-orders : goal.returns-clause-orders
returns-clause-orders c = λ w. orders_is w

pub returns-clause-halts : goal.returns-clause-halts
returns-clause-halts c = λ w. halts_are w
