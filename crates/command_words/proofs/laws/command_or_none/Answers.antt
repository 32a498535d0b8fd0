use Rattle.command_words.proofs.SomeCommand as lemmas
use Rattle.command_words.proofs.laws.command_or_none.Goals as goal

pub returns : goal.returns
returns c = lemmas.command_or_none
