use Rattle.dbgconf_text.proofs.Sizes.{answer_size, replaced_size}
use Rattle.dbgconf_text.proofs.laws.replaced_text_is_short.Goals as goal

pub returns-clause-spliced : goal.returns-clause-spliced
returns-clause-spliced c = replaced_size

pub returns-clause-replaced : goal.returns-clause-replaced
returns-clause-replaced c = answer_size
