use Rattle.batch_packer.proofs.CallLemmas.{last_delayed, next_delayed, none_delayed}
use Rattle.batch_packer.proofs.laws.a_delay_is_its_commands.Goals as goal

pub returns : goal.returns
returns c = record { none = none_delayed; next = next_delayed; last = last_delayed }
