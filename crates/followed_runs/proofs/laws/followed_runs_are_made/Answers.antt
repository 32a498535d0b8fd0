use Rattle.followed_runs.proofs.MadeLemmas.{followed_made}
use Rattle.followed_runs.proofs.laws.followed_runs_are_made.Goals as goal

pub returns : goal.returns
returns c = followed_made
