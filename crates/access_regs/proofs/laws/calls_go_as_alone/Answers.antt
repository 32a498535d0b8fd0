use Rattle.access_regs.proofs.AllCalls.{fresh_follows, call_leaves}
use Rattle.access_regs.proofs.laws.calls_go_as_alone.Goals as goal

pub returns-clause-begin : goal.returns-clause-begin
returns-clause-begin c = fresh_follows

pub returns-clause-leaves : goal.returns-clause-leaves
returns-clause-leaves c = call_leaves
