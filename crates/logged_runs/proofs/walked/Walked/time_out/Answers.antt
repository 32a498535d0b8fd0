use Rattle.std.proofs.Common.{refl}
use Rattle.log_lines.specs.Places.{condition_spot}
use Rattle.sequence_trees.specs.declared.spot.Part.TheVariants as part
use Rattle.logged_runs.proofs.Leaves.{timeout_one}
use Rattle.logged_runs.proofs.walked.Walked.time_out.Goals as goal

pub returns : goal.returns
returns c = record {
  state = λ target. refl;
  refused = tt;
  noted = λ turns. timeout_one turns _ _ _ _ (c.in-Ok.ensures (condition_spot c.args.sequence.now c.args.path.now part.While)) refl (λ earlier of. c.in-Ok-time_out.ensures c.args.count earlier of) refl refl;
}
