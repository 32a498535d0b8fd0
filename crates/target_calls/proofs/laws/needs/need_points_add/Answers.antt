use Rattle.target_calls.proofs.NeedLemmas.{asked_calls, needed_calls, needed_exact, needed_least, needed_most, needed_twice, used_calls}
use Rattle.target_calls.proofs.laws.needs.need_points_add.Goals as goal

pub returns-clause-add : goal.returns-clause-add
returns-clause-add c = needed_twice

pub returns-clause-exact : goal.returns-clause-exact
returns-clause-exact c = needed_exact

pub returns-clause-most : goal.returns-clause-most
returns-clause-most c = needed_most

pub returns-clause-least : goal.returns-clause-least
returns-clause-least c = needed_least

pub returns-clause-calls : goal.returns-clause-calls
returns-clause-calls c = needed_calls

pub returns-clause-used : goal.returns-clause-used
returns-clause-used c = used_calls

pub returns-clause-asked : goal.returns-clause-asked
returns-clause-asked c = asked_calls
