use Rattle.sequence_meaning.proofs.PartLemmas.{first_part, no_run_leaves}
use Rattle.sequence_meaning.proofs.direct.record_run.Goals as goal

pub returns-in_err-ending-clause-part : goal.returns-in_err-ending-clause-part
returns-in_err-ending-clause-part c = λ start target written out h law made. no_run_leaves start _ _ target written c.from_residual.ensures.0 (c.args.held.calls, first_part c.args.ended c.args.held start target written out h law made)

pub returns-clause-part : goal.returns-clause-part
returns-clause-part c = λ start target written out h law made. first_part c.args.ended c.args.held start target written out h law made
