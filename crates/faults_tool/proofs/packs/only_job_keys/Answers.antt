use Rattle.faults_tool.proofs.packs.only_job_keys.Goals as goal

pub returns : goal.returns
returns c = c.only_keys_of.ensures
