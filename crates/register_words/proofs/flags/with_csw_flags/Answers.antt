use Rattle.register_words.specs.Flags.{csw_flags}
use Rattle.register_words.proofs.Chains.{three}
use Rattle.register_words.proofs.flags.with_csw_flags.Goals as goal

pub returns : goal.returns
unfolding csw_flags
returns c = three _ _ _ _ _ _ c.with_flag-3.result c.in_ok-line.ensures c.in_ok-line-2.ensures c.with_flag-3.ensures
