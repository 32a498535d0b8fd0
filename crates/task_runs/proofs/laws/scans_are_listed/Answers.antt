use Rattle.task_runs.proofs.LawLemmas.{scans_listed}
use Rattle.task_runs.proofs.laws.scans_are_listed.Goals as goal

pub returns : goal.returns
returns c = scans_listed
