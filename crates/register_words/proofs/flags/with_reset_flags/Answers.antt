use Rattle.register_words.specs.Flags.{reset_flags}
use Rattle.register_words.proofs.Chains.{four}
use Rattle.register_words.proofs.flags.with_reset_flags.Goals as goal

pub returns : goal.returns
unfolding reset_flags
returns c = four _ _ _ _ _ _ _ _ c.with_flag-4.result c.in_ok-line.ensures c.in_ok-line-2.ensures c.in_ok-line-3.ensures c.with_flag-4.ensures
