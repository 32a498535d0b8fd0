use Rattle.command_words.proofs.TableLemmas.{no_mode}
use Rattle.command_words.proofs.top.command_by.Goals as goal

pub returns-in_default-clause-usage : goal.returns-in_default-clause-usage
returns-in_default-clause-usage c = λ _. no_mode _ c.in_default.ensures
