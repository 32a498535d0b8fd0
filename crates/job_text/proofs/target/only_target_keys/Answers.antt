use Rattle.job_text.proofs.target.only_target_keys.Goals as goal

pub returns : goal.returns
returns c = c.only_keys_of.ensures
