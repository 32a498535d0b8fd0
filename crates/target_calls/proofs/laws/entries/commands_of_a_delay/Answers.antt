use Rattle.target_calls.proofs.EntryLemmas.{delay_enough, delay_few, delay_some}
use Rattle.target_calls.proofs.laws.entries.commands_of_a_delay.Goals as goal

pub returns-clause-some : goal.returns-clause-some
returns-clause-some c = delay_some

pub returns-clause-enough : goal.returns-clause-enough
returns-clause-enough c = delay_enough

pub returns-clause-few : goal.returns-clause-few
returns-clause-few c = delay_few
