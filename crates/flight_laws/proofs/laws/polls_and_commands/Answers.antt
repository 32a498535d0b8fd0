use Rattle.flight_laws.proofs.ActionLemmas.{action_done, action_bench_law, action_wait_law, fault_forgiven}
use Rattle.flight_laws.proofs.laws.polls_and_commands.Goals as goal

pub returns-clause-done : goal.returns-clause-done
returns-clause-done c = action_done

pub returns-clause-bench : goal.returns-clause-bench
returns-clause-bench c = action_bench_law

pub returns-clause-wait : goal.returns-clause-wait
returns-clause-wait c = action_wait_law

pub returns-clause-forgiven : goal.returns-clause-forgiven
returns-clause-forgiven c = fault_forgiven
