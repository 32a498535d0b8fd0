use Rattle.target_calls.proofs.MarkLemmas.{marked_append, marked_same, marked_settled, settled_append}
use Rattle.target_calls.proofs.laws.marks.last_mark.Goals as goal

pub returns-clause-marked : goal.returns-clause-marked
returns-clause-marked c = marked_settled

pub returns-clause-same : goal.returns-clause-same
returns-clause-same c = marked_same

pub returns-clause-last : goal.returns-clause-last
returns-clause-last c = settled_append

pub returns-clause-others : goal.returns-clause-others
returns-clause-others c = marked_append
