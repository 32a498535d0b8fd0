use Rattle.image_load.proofs.MeetLemmas.{meets}
use Rattle.image_load.proofs.laws.loads_are_sequels.Goals as goal

pub returns : goal.returns
returns c = λ w ap image result old new lines whole h. meets w ap image old whole result new lines h
