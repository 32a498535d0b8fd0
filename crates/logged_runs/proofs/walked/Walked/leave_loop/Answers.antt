use Rattle.std.proofs.Common.{refl}
use Rattle.log_lines.specs.Places.{condition_spot}
use Rattle.sequence_trees.specs.declared.spot.Part.TheVariants as part
use Rattle.logged_runs.proofs.Leaves.{covered_one}
use Rattle.logged_runs.proofs.walked.Walked.leave_loop.Goals as goal

pub returns : goal.returns
returns c = record {
  state = λ target. refl;
  refused = tt;
  noted = λ turns. covered_one turns _ _ _ (c.in-Ok.ensures (condition_spot c.args.sequence.now c.args.path.now part.While)) refl (λ earlier of. c.in-Ok-leave_loop.ensures c.args.number earlier of) refl refl refl refl;
}
