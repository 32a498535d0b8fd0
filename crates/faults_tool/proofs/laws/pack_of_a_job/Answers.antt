use Rattle.faults_tool.proofs.laws.pack_of_a_job.Goals as goal

pub returns : goal.returns
returns c = λ d job is. record { known = is.known; pack = is.pack }
