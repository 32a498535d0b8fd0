use Rattle.target_calls.proofs.EntryLemmas.{performed_fits, performed_front, performed_most, performed_part, performed_within, weight_some}
use Rattle.target_calls.proofs.laws.entries.performed_entries.Goals as goal

pub returns-clause-within : goal.returns-clause-within
returns-clause-within c = performed_within

pub returns-clause-fits : goal.returns-clause-fits
returns-clause-fits c = performed_fits

pub returns-clause-most : goal.returns-clause-most
returns-clause-most c = performed_most

pub returns-clause-weighs : goal.returns-clause-weighs
returns-clause-weighs c = weight_some

pub returns-clause-front : goal.returns-clause-front
returns-clause-front c = performed_front

pub returns-clause-part : goal.returns-clause-part
returns-clause-part c = performed_part
