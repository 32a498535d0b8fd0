use Rattle.std.proofs.Common.{refl}
use Rattle.log_lines.specs.Places.{condition_spot}
use Rattle.sequence_trees.specs.declared.spot.Part.TheVariants as part
use Rattle.logged_runs.proofs.Leaves.{plain_one}
use Rattle.logged_runs.proofs.walked.Walked.turn.Goals as goal

pub returns : goal.returns
returns c = record {
  state = λ target. refl;
  refused = tt;
  noted = λ turns. plain_one turns _ _ _ (c.in-Ok.ensures (condition_spot c.args.sequence.now c.args.path.now part.While)) c.in-Ok-reach.ensures refl refl refl refl refl refl;
}
