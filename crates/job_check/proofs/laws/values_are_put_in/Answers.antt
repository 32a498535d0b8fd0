use Rattle.job_check.proofs.PutIn as lemmas
use Rattle.job_check.proofs.laws.values_are_put_in.Goals as goal

pub returns : goal.returns
returns c = record {
  debugvars = λ selection name run is items plain has code reads. lemmas.debugvars_put_in selection name run is items plain has code reads;
  sequences = λ selection name run is items plain has trees reads. lemmas.sequences_stay selection name run is items plain has trees reads;
}
