use Rattle.target_machine.proofs.AccessLaws.{setting_faults, fault_alone}
use Rattle.target_machine.proofs.FreshLemmas.{attempt_sets}
use Rattle.target_machine.proofs.laws.accesses.faults_set_stickyerr.Goals as goal

pub returns-clause-first : goal.returns-clause-first
returns-clause-first c = attempt_sets

pub returns-clause-raised : goal.returns-clause-raised
returns-clause-raised c = setting_faults

pub returns-clause-fault : goal.returns-clause-fault
returns-clause-fault c = fault_alone
