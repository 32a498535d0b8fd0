use Rattle.register_words.specs.Flags.{reset_pins}
use Rattle.register_words.proofs.Chains.{two}
use Rattle.register_words.proofs.flags.with_reset_pins.Goals as goal

pub returns : goal.returns
unfolding reset_pins
returns c = two _ _ _ _ c.with_flag-2.result c.in_ok-line.ensures c.with_flag-2.ensures
