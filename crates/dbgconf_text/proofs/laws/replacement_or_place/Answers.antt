use Rattle.dbgconf_text.proofs.OneReplacement.{some_replacement}
use Rattle.dbgconf_text.proofs.laws.replacement_or_place.Goals as goal

pub returns : goal.returns
returns c = some_replacement
