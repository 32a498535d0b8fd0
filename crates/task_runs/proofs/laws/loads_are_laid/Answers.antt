use Rattle.task_runs.proofs.LawLemmas.{loads_laid}
use Rattle.task_runs.proofs.laws.loads_are_laid.Goals as goal

pub returns : goal.returns
returns c = loads_laid
