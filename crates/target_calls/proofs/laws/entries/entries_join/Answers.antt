use Rattle.target_calls.proofs.EntryLemmas.{attempted_append, commands_append, pass_append, pass_front, pass_rest, registers_append, skipped_append, target_append, weight_append}
use Rattle.target_calls.proofs.laws.entries.entries_join.Goals as goal

pub returns-clause-target : goal.returns-clause-target
returns-clause-target c = target_append

pub returns-clause-weight : goal.returns-clause-weight
returns-clause-weight c = weight_append

pub returns-clause-attempted : goal.returns-clause-attempted
returns-clause-attempted c = attempted_append

pub returns-clause-skipped : goal.returns-clause-skipped
returns-clause-skipped c = skipped_append

pub returns-clause-commands : goal.returns-clause-commands
returns-clause-commands c = commands_append

pub returns-clause-registers : goal.returns-clause-registers
returns-clause-registers c = registers_append

pub returns-clause-both : goal.returns-clause-both
returns-clause-both c = pass_append

pub returns-clause-front : goal.returns-clause-front
returns-clause-front c = pass_front

pub returns-clause-rest : goal.returns-clause-rest
returns-clause-rest c = pass_rest
