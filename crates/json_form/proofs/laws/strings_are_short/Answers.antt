use Rattle.json_form.proofs.TextValues.{value_is_short}
use Rattle.json_form.proofs.laws.strings_are_short.Goals as goal

pub returns : goal.returns
returns c = value_is_short
