use Rattle.target_calls.proofs.NeedLemmas.{used_again, used_finished, used_free}
use Rattle.target_calls.proofs.laws.needs.uses_after_a_need_point.Goals as goal

pub returns-clause-needed : goal.returns-clause-needed
returns-clause-needed c = used_free

pub returns-clause-finished : goal.returns-clause-finished
returns-clause-finished c = used_finished

pub returns-clause-used : goal.returns-clause-used
returns-clause-used c = used_again
