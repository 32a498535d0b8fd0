use Rattle.set_faults.proofs.PhaseLemmas.{only_answer}
use Rattle.set_faults.proofs.phases.all_faults.Goals as goal

pub returns-clause-only : goal.returns-clause-only
returns-clause-only c = only_answer c.args.set.now c.faults_of.result c.faults_of.ensures
