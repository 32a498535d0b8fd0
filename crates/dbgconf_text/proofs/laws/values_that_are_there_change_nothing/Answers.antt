use Rattle.dbgconf_text.proofs.There.{all_there, not_changed, reads_the_same}
use Rattle.dbgconf_text.proofs.laws.values_that_are_there_change_nothing.Goals as goal

pub returns-clause-code : goal.returns-clause-code
returns-clause-code c = λ set code there. not_changed code set there

pub returns-clause-only : goal.returns-clause-only
returns-clause-only c = λ set code same. all_there code set same

pub returns-clause-text : goal.returns-clause-text
returns-clause-text c = reads_the_same
