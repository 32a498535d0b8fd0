use Rattle.std.proofs.Common.{refl}
use Rattle.logged_runs.proofs.Leaves.{plain_one}
use Rattle.logged_runs.proofs.walked.Walked.find.Goals as goal

pub returns : goal.returns
returns c = λ spot. record {
  state = λ target. refl;
  refused = tt;
  noted = λ turns. plain_one turns _ _ _ (c.in-Ok.ensures spot) refl refl refl refl refl refl refl;
}
