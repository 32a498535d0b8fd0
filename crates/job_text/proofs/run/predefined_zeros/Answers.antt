use Rattle.job_text.proofs.run.predefined_zeros.Goals as goal

pub returns : goal.returns
returns c = c.zeros_of.ensures
