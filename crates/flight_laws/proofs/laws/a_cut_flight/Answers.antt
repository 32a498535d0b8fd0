use Rattle.flight_laws.proofs.CutLemmas.{fault_flies, wait_flies, bench_flies}
use Rattle.flight_laws.proofs.laws.a_cut_flight.Goals as goal

pub returns-clause-fault : goal.returns-clause-fault
returns-clause-fault c = fault_flies

pub returns-clause-wait : goal.returns-clause-wait
returns-clause-wait c = wait_flies

pub returns-clause-bench : goal.returns-clause-bench
returns-clause-bench c = bench_flies
