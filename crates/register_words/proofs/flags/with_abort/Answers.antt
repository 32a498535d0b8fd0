use Rattle.register_words.specs.Flags.{abort_flags}
use Rattle.register_words.proofs.Chains.{two}
use Rattle.register_words.proofs.flags.with_abort.Goals as goal

pub returns : goal.returns
unfolding abort_flags
returns c = two _ _ _ _ c.with_flag.result c.in_ok-line.ensures c.with_flag.ensures
