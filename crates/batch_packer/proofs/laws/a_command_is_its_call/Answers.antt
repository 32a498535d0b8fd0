use Rattle.batch_packer.proofs.CallLemmas.{call_acts, call_gives, call_sets_nothing}
use Rattle.batch_packer.proofs.laws.a_command_is_its_call.Goals as goal

pub returns : goal.returns
returns c = record { acts = call_acts; setting = call_sets_nothing; number = call_gives }
