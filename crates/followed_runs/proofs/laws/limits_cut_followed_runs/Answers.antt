use Rattle.followed_runs.proofs.FollowLemmas.{limits_followed}
use Rattle.followed_runs.proofs.laws.limits_cut_followed_runs.Goals as goal

pub returns : goal.returns
returns c = λ m k t written. limits_followed k.sequel m k.program t written
