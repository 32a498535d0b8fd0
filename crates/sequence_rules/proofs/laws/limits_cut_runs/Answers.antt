use Rattle.sequence_rules.proofs.Limits.{limit_cuts}
use Rattle.sequence_rules.proofs.laws.limits_cut_runs.Goals as goal

pub returns : goal.returns
returns c = λ m p t written. limit_cuts m p t written
