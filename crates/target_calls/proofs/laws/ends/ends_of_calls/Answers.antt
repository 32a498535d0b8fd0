use Rattle.target_calls.proofs.EndLemmas.{faulted_forgives_not, none_skipped, skipped_forgives, small_wide}
use Rattle.target_calls.proofs.laws.ends.ends_of_calls.Goals as goal

pub returns-clause-skipped : goal.returns-clause-skipped
returns-clause-skipped c = skipped_forgives

pub returns-clause-faulted : goal.returns-clause-faulted
returns-clause-faulted c = faulted_forgives_not

pub returns-clause-small : goal.returns-clause-small
returns-clause-small c = small_wide

pub returns-clause-none_skipped : goal.returns-clause-none_skipped
returns-clause-none_skipped c = none_skipped
