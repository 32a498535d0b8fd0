use Rattle.pack_warnings.proofs.SetLemmas.{only_answer}
use Rattle.pack_warnings.proofs.warnings.pack_warnings.Goals as goal

pub returns-clause-only : goal.returns-clause-only
returns-clause-only c = only_answer c.args.pack.now c.args.request.now c.list_in.result c.list_in.ensures.answer
