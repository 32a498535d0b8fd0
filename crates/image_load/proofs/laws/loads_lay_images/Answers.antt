use Rattle.image_load.proofs.LaidLemmas.{loads_lay}
use Rattle.image_load.proofs.laws.loads_lay_images.Goals as goal

pub returns : goal.returns
returns c = λ w ap image can. loads_lay w ap image can
