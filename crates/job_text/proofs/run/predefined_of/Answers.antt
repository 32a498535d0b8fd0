use Rattle.job_text.proofs.run.predefined_of.Goals as goal

pub returns : goal.returns
returns c = c.values_of.ensures
