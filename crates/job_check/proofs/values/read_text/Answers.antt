use Rattle.job_check.proofs.ValueLemmas.{read_text, refused_text}
use Rattle.job_check.proofs.values.read_text.Goals as goal

pub returns-in-Ok-clause-found : goal.returns-in-Ok-clause-found
returns-in-Ok-clause-found c = read_text c.args.text.now c.in-Ok.conf c.in-Ok.ensures.answer

pub returns-in-Err-clause-refused : goal.returns-in-Err-clause-refused
returns-in-Err-clause-refused c = rw c.refuse_text.ensures (refused_text c.args.text.now c.in-Err.fault c.in-Err.ensures.answer)
