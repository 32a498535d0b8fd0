use Rattle.access_calls.proofs.OpeningLemmas.{loaded_may_begin}
use Rattle.access_calls.proofs.laws.a_loaded_job_may_begin.Goals as goal

pub returns : goal.returns
returns c = loaded_may_begin
