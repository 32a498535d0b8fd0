use Rattle.job_text.proofs.run.only_predefined.Goals as goal

pub returns : goal.returns
returns c = c.only_keys_of.ensures
