use Rattle.target_calls.proofs.WorldLemmas.{front_first, results_first, unlimited_whole, whole_after, whole_least, whole_skips, whole_unlimited}
use Rattle.target_calls.proofs.laws.worlds.limits_of_answers.Goals as goal

pub returns-clause-results : goal.returns-clause-results
returns-clause-results c = results_first

pub returns-clause-front : goal.returns-clause-front
returns-clause-front c = front_first

pub returns-clause-answered : goal.returns-clause-answered
returns-clause-answered c = whole_least

pub returns-clause-unlimited : goal.returns-clause-unlimited
returns-clause-unlimited c = whole_unlimited

pub returns-clause-whole : goal.returns-clause-whole
returns-clause-whole c = unlimited_whole

pub returns-clause-after : goal.returns-clause-after
returns-clause-after c = whole_after

pub returns-clause-skips : goal.returns-clause-skips
returns-clause-skips c = whole_skips
