use Rattle.dbgconf_text.proofs.OneReplacement.{one_place, one_text, text_or_place}
use Rattle.dbgconf_text.proofs.laws.one_replacement.Goals as goal

pub returns-clause-text : goal.returns-clause-text
returns-clause-text c = one_text

pub returns-clause-place : goal.returns-clause-place
returns-clause-place c = one_place

pub returns-clause-either : goal.returns-clause-either
returns-clause-either c = text_or_place
